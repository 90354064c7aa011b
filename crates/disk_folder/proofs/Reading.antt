-- A run of a task reads files, and writes none.
use Rattle.std.proofs.Common.{◌≡◌, ℕ, ◌+◌, List, [], ◌∷◌, ◌++◌, Option, Some, None, Ok, Err, inl, inr, zip}
use Rattle.ninja_text.specs.Bytes.{Bytes, Text, PathText}
use Rattle.ninja_text.specs.declared.failure.Failure.{Failure}
use Rattle.ninja_text.specs.declared.failure.Failure.TheVariants.{Memory, Fault}
use Rattle.command_line.specs.Tasks.{TaskValue, one, collate, show, effect, order, project}
use Rattle.scan_docs.specs.Target as document
use Rattle.commands.specs.Folder.{FileCall, FileRead, reading, comparing, writing}
use Rattle.commands.specs.Outcomes.{Part, Outcome, ErrorValue, LineValue, InTurn, goes_on, stops, Returns, Comes, Each, IsUnread, ReadsDocument, ReadsAs, ReadsNext, ReadsAll, ReadsIfNamed, UnlessKnown, read_before}
use Rattle.commands.specs.EdgeChecks.{EdgesPass}
use Rattle.commands.specs.Files.{FilesOf}
use Rattle.commands.specs.Listings.{ListingRead, ReadsListing}
use Rattle.commands.specs.ProjectCommand.{At, ReadTargetValue, ReadsTarget, AllEdgesPass, ListAfter, list_with}
use Rattle.commands.specs.Runs.{TaskRun}
use Rattle.collate_core.specs.Values.{CollatedValue}
use Rattle.disk_folder.specs.Killed.{AllRead}

both_read : (calls more : List FileCall) → AllRead calls → AllRead more → AllRead (calls ++ more)
both_read [] more first second = second
both_read (reading name result ∷ calls) more first second = both_read calls more first second
both_read (comparing name bytes same ∷ calls) more first second = absurd first
both_read (writing name bytes result ∷ calls) more first second = absurd first

-- the part of a run makes only calls that read
pub record OnlyReads {V : Type 0} (P : Part V) : Type 0 where
  pub reads : (calls : List FileCall) (outcome : Outcome V) → P calls outcome → AllRead calls

in_turn : {A B : Type 0} {First : Part A} {Second : A → Part B} → OnlyReads First → ((value : A) → OnlyReads (Second value)) →
    OnlyReads (λ calls outcome. InTurn First Second calls outcome)
in_turn first second = record {
  reads = λ calls outcome h. elim h [
    | goes_on value before after is left right ↦ rw is (both_read before after (first.reads before (Ok value) left) ((second value).reads after outcome right))
    | stops stop left is ↦ first.reads calls (Err stop) left
  ];
}

returns_none : {V F : Type 0} (IsValue : V → Type 0) (IsFault : F → Type 0) (error : F → ErrorValue) (calls : List FileCall) (outcome : Outcome V) →
    Returns IsValue IsFault error calls outcome → calls ≡ []
returns_none IsValue IsFault error calls (Ok value) h = h.0
returns_none IsValue IsFault error calls (Err Memory) h = h
returns_none IsValue IsFault error calls (Err (Fault stop)) h = h.0

returns : {V F : Type 0} (IsValue : V → Type 0) (IsFault : F → Type 0) (error : F → ErrorValue) →
    OnlyReads (λ calls outcome. Returns IsValue IsFault error calls outcome)
returns IsValue IsFault error = record { reads = λ calls outcome h. rw (returns_none IsValue IsFault error calls outcome h) tt }

comes_read : {V : Type 0} (Holds : V → Type 0) (calls : List FileCall) (outcome : Outcome V) → Comes Holds calls outcome → AllRead calls
comes_read Holds calls (Ok value) h = rw h.0 tt
comes_read Holds calls (Err stop) h = absurd h

comes : {V : Type 0} (Holds : V → Type 0) → OnlyReads (λ calls outcome. Comes Holds calls outcome)
comes Holds = record { reads = comes_read Holds }

unread : (name : PathText) (calls : List FileCall) (stop : Failure LineValue) → IsUnread name calls stop → AllRead calls
unread name calls Memory h = elim h [ inl none ↦ rw none tt | inr failed ↦ rw failed.1 tt ]
unread name calls (Fault stop) h = rw h.0.1 tt

document_read : (name : PathText) (calls : List FileCall) (outcome : Outcome Bytes) → ReadsDocument name calls outcome → AllRead calls
document_read name calls (Ok bytes) h = rw h tt
document_read name calls (Err stop) h = unread name calls stop h

document_reads : (name : PathText) → OnlyReads (λ calls outcome. ReadsDocument name calls outcome)
document_reads name = record { reads = document_read name }

once_reads : (known : Option (List ℕ)) (name : PathText) → OnlyReads (λ calls outcome. UnlessKnown known (ReadsDocument name) calls outcome)
once_reads (Some bytes) name = returns _ _ _
once_reads None name = document_reads name

as_read : {V : Type 0} (Follows : FileRead → V → Type 0) (name : PathText) (calls : List FileCall) (outcome : Outcome V) → ReadsAs Follows name calls outcome →
    AllRead calls
as_read Follows name calls (Ok value) h = rw h.1 tt
as_read Follows name calls (Err stop) h = unread name calls stop h

as_reads : {V : Type 0} (Follows : FileRead → V → Type 0) (name : PathText) → OnlyReads (λ calls outcome. ReadsAs Follows name calls outcome)
as_reads Follows name = record { reads = as_read Follows name }

each : {V X : Type 0} (Next : V → X → Part V) → ((value : V) (x : X) → OnlyReads (Next value x)) → (value : V) (xs : List X) →
    OnlyReads (λ calls outcome. Each Next value xs calls outcome)
each Next next value [] = comes (λ last. last ≡ value)
each Next next value (x ∷ xs) = in_turn (next value x) (λ after. each Next next after xs)

all_reads : (names : List PathText) → OnlyReads (λ calls outcome. ReadsAll names calls outcome)
all_reads names =
    each (ReadsNext names) (λ before name. in_turn (once_reads (read_before (zip names before) name) name) (λ bytes. returns _ _ _)) [] names

named_reads : (name : Option PathText) → OnlyReads (λ calls outcome. ReadsIfNamed ReadsListing name calls outcome)
named_reads None = returns _ _ _
named_reads (Some name) = in_turn (as_reads _ name) (λ value. returns _ _ _)

files_read : (spec : document.TargetDocumentValue) (linked : List PathText) → OnlyReads (λ calls outcome. FilesOf spec linked calls outcome)
files_read spec linked = in_turn (all_reads spec.scans) (λ scans. in_turn (all_reads linked) (λ infos. in_turn (named_reads spec.edges) (λ listing. returns _ _ _)))

edges_read : (listing : Option ListingRead) (name : PathText) (dyndep : Text) → OnlyReads (λ calls outcome. EdgesPass listing name dyndep calls outcome)
edges_read None name dyndep = returns _ _ _
edges_read (Some listing) name dyndep = in_turn (returns _ _ _) (λ old. in_turn (returns _ _ _) (λ new. returns _ _ _))

at_reads : {V : Type 0} (index : ℕ) (P : Part V) → OnlyReads P → OnlyReads (λ calls outcome. At index P calls outcome)
at_reads index P only = record { reads = λ calls outcome h. only.reads calls h.0 h.1 }

list_reads : (known : Option ListingRead) (name : PathText) → OnlyReads (λ calls outcome. UnlessKnown known (ReadsListing name) calls outcome)
list_reads (Some list) name = returns _ _ _
list_reads None name = as_reads _ name

named_list_reads : (earlier : List ReadTargetValue) (name : Option PathText) → OnlyReads (λ calls outcome. ReadsIfNamed (ListAfter earlier) name calls outcome)
named_list_reads earlier None = returns _ _ _
named_list_reads earlier (Some name) = in_turn (list_reads (list_with earlier name) name) (λ value. returns _ _ _)

target_reads : (earlier : List ReadTargetValue) (name : PathText) → OnlyReads (λ calls outcome. ReadsTarget earlier name calls outcome)
target_reads earlier name =
    in_turn (in_turn (document_reads name) (λ bytes. in_turn (at_reads _ _ (returns _ _ _)) (λ spec. in_turn (at_reads _ _ (returns _ _ _)) (λ passed.
    in_turn (at_reads _ _ (returns _ _ _)) (λ linked. in_turn (all_reads spec.scans) (λ scans. in_turn (named_list_reads earlier spec.edges) (λ listing. returns _ _ _)))))))
    (λ target. returns _ _ _)

all_edges_read : (index : ℕ) (pairs : List (ReadTargetValue × CollatedValue)) → OnlyReads (λ calls outcome. AllEdgesPass index pairs calls outcome)
all_edges_read index [] = returns _ _ _
all_edges_read index ((t, c) ∷ others) =
    in_turn (at_reads index (EdgesPass t.listing t.spec.dyndep_path c.dyndep) (edges_read t.listing t.spec.dyndep_path c.dyndep))
    (λ done. all_edges_read (index + 1) others)

pub task_reads : (task : TaskValue) → OnlyReads (λ calls outcome. TaskRun task calls outcome)
task_reads (one scan dir ext) = in_turn (document_reads scan) (λ bytes. in_turn (returns _ _ _) (λ collated. returns _ _ _))
task_reads (collate target) =
    in_turn (document_reads target) (λ bytes.
    in_turn (returns _ _ _) (λ spec. in_turn (files_read spec spec.linked) (λ files. in_turn (returns _ _ _) (λ collated.
    in_turn (edges_read files.listing spec.dyndep_path collated.dyndep) (λ passed. returns _ _ _)))))
task_reads (show dyndep) = in_turn (as_reads _ dyndep) (λ read. in_turn (returns _ _ _) (λ statements. in_turn (returns _ _ _) (λ text. returns _ _ _)))
task_reads (effect name edges dyndep) =
    in_turn (as_reads _ edges) (λ listing. in_turn (as_reads _ dyndep) (λ read.
    in_turn (returns _ _ _) (λ path. in_turn (returns _ _ _) (λ old. in_turn (returns _ _ _) (λ statements.
    in_turn (returns _ _ _) (λ new. in_turn (returns _ _ _) (λ text. returns _ _ _)))))))
task_reads (order edges) = in_turn (as_reads _ edges) (λ listing. in_turn (returns _ _ _) (λ graph. returns _ _ _))
task_reads (project file) =
    in_turn (document_reads file) (λ bytes.
    in_turn (returns _ _ _) (λ value. in_turn (each ReadsTarget target_reads [] value.targets) (λ targets.
    in_turn (returns _ _ _) (λ outs. in_turn (all_edges_read 0 (zip targets outs)) (λ passed. returns _ _ _)))))
