-- What a list mentions, each item once, and the marks of what was mentioned.
use Rattle.std.specs.Prelude.{◌≡◌, ℕ, ◌<◌, ◌≤◌, List, [], ◌++◌, length, map, All, get_or, slice_get, Some}
use Rattle.std.specs.List.{flat_map}
use Rattle.document_values.specs.Info.{InfoValue}
use Rattle.module_table.specs.TableValue.{TableValue}
use Rattle.module_table.specs.Modules.{Provision, provisions}
use Rattle.module_table.specs.Added.{first_mentions}
use Rattle.module_table.specs.inner.Indexed.{pair_at}
use Rattle.module_table.specs.inner.Views.{names_of}
use Rattle.ninja_text.specs.Firsts.{AllDiffer}

-- the name at this index
abbrev pub name_in : List (List ℕ) → ℕ → List ℕ
name_in names index = get_or names index []

-- `mentioned` has the indexes in order of first mention, each once. The definition says so of the
-- names at these indexes, for any `count` different names.
abbrev pub AreFirsts : ℕ → List ℕ → List ℕ → Type 0
AreFirsts count indexes mentioned =
    (names : List (List ℕ)) → AllDiffer names → length names ≡ count →
    map (name_in names) mentioned ≡ first_mentions (map (name_in names) indexes)

-- exactly the mentioned indexes have the mark, and no mark is greater
pub record AreMarked (mark : ℕ) (marks mentioned : List ℕ) : Type 0 where
  pub at_most : All (λ m. m ≤ mark) marks
  pub met : (i : ℕ) → i < length marks → get_or marks i 0 ≡ mark → (k : ℕ)
      × (slice_get mentioned k ≡ Some i)
  pub within : (k i : ℕ) → slice_get mentioned k ≡ Some i → i < length marks
  pub marked : (k i : ℕ) → slice_get mentioned k ≡ Some i → get_or marks i 0 ≡ mark

-- the names and files of the modules at these indexes, each once, in order of first mention
abbrev pub AreFirstPairs : List Provision → List ℕ → List (List ℕ × List ℕ) → Type 0
AreFirstPairs provided indexes pairs = (mentioned : List ℕ)
    × AreFirsts (length provided) indexes mentioned
    × (map (λ pair. Some pair) pairs ≡ map (pair_at provided) mentioned)

-- the same, and exactly the mentioned indexes have the mark
pub record ArePairsSoFar (provided : List Provision) (mark : ℕ) (marks indexes : List ℕ)
    (pairs : List (List ℕ × List ℕ)) : Type 0 where
  pub mentioned : List ℕ
  pub marked : AreMarked mark marks mentioned
  pub firsts : AreFirsts (length marks) indexes mentioned
  pub found : map (λ pair. Some pair) pairs ≡ map (pair_at provided) mentioned

-- the names that the modules of an info file require
abbrev pub info_names : InfoValue → List (List ℕ)
info_names info = flat_map (λ entry. map (λ pair. pair.0) entry.required) info.modules

-- all names that a table mentions: names of provided modules by index, then names that objects
-- require, then names that modules of info files require
abbrev pub mentioned_names : TableValue → List (List ℕ)
mentioned_names t = names_of (provisions t)
    ++ (flat_map (λ rule. rule.required) t.objects ++ flat_map info_names t.infos)
