-- These facts about a `Folder` have at most one proof, as the ghost fields of a type must.
use Rattle.std.specs.Prelude.{List, slice_index_or, All, Option, Some, None, Ok, Err}
use Rattle.std.specs.Coded.{coded_bool, coded_list, coded_option, coded_ℕ, Coded-set, Unit-prop, Π_prop, ×_prop, →_prop}
use Rattle.std.specs.BTreeMap.{BTreeMap}
use Rattle.std.specs.Borrow.{Bor}
use Rattle.ninja_text.specs.Bytes.{Bytes, PathText}
use Rattle.commands.specs.Folder.{FileCall, FileRead, reading, comparing, writing}
use Rattle.in_memory.specs.Given.{GivenFile, IsCallOf, IsReadOf, bytes_named}
use Rattle.in_memory.specs.inner.FirstFiles.{AreFirst}

IsReadOf-prop : (found : Option Bytes) (file : FileRead) → IsProp (IsReadOf found file)
IsReadOf-prop None file = λ x y. absurd x
IsReadOf-prop (Some bytes) file = ×_prop (Coded-set (coded_list coded_ℕ) _ _)
    (→_prop (Coded-set (coded_list coded_ℕ) _ _))

pub IsCallOf-prop : (files : List GivenFile) (call : FileCall) → IsProp (IsCallOf files call)
IsCallOf-prop files (reading name (Ok file)) = IsReadOf-prop (bytes_named files name) file
IsCallOf-prop files (reading name (Err error)) =
    →_prop (Coded-set (coded_option (coded_list coded_ℕ)) _ _)
IsCallOf-prop files (comparing name bytes same) = Coded-set coded_bool _ _
IsCallOf-prop files (writing name bytes (Ok done)) = λ x y. absurd x
IsCallOf-prop files (writing name bytes (Err error)) = Unit-prop

pub calls-prop : (files : List GivenFile) (calls : List FileCall) →
    IsProp (All (IsCallOf files) calls)
calls-prop files calls =
    Π_prop (λ k. Π_prop (λ d. →_prop (IsCallOf-prop files (slice_index_or calls k d))))

pub named-prop : (first : BTreeMap (Bor PathText) (Bor Bytes)) (files : List GivenFile) →
    IsProp (AreFirst first files)
named-prop first files = Π_prop (λ name. Coded-set (coded_option (coded_list coded_ℕ)) _ _)
