-- What a parse of the program's arguments finds: of a command's name and the words after it, and of
-- all arguments.
use Rattle.std.proofs.Common.{◌≡◌, ◌∙◌, Bool, true, false, List, [], ◌∷◌, Option, Some, None, refl, ap, ap₂, sym, is_some, ◌==◌, ℕ, String, Global, subst, inl, inr, ⊎_elim, drop, map, string_bytes, slice_index_or, arith}
use Rattle.std.specs.Prelude.{option_map, codes, fold, find, option_and_then}
use Rattle.std.specs.Str.{bytes_eq, IsUtf8}
use Rattle.clap.specs.Walk.{Row, Text, Walk, answers_to, finished, idle, nothing_held, rows_after, settled, stop_after, subcommand_met, walk, walk_from, walked, Rule, arg_by_index}
use Rattle.clap.specs.Simple.{App, Shape, entered, label_of, names_of, rows_at, HasMatchesOf, built, built_leaf, inherited, is_simple, subcommand_of, subcommand_rows_of}
use Rattle.clap.specs.Kinds.{Kinds, or_else, HasKind, IsAmong}
use Rattle.clap.specs.Faults.{built_fault, check_fault, defaults_fault, entered_fault, level_fault, settle_fault, turn_fault, walk_fault, fault_of, is_simple_and_free}
use Rattle.clap.proofs.WalkLemmas.{walk_stopped}
use Rattle.clap.proofs.FaultLemmas.{stopped_fault}
use Rattle.command_line.specs.Tasks.{is_flag, TaskValue, operands, task_from, task_in}
use Rattle.command_line.specs.inner.Parses.{top, command_app, program, task_found}
use Rattle.command_line.proofs.Positionals.{HasSingles, at, flag_unknown, no_flag, read, unless, IsSingle, as_operands}
use Rattle.std.specs.List.{All}
use Rattle.std.specs.Option.{option_map_or}
use Rattle.std.proofs.lemmas.Bool.{cases_Bool}
use Rattle.std.proofs.lemmas.List.Elements.{All-tail, All-drop, All-map}
use Rattle.std.proofs.lemmas.Slice.Eq.{bytes_eq-Decides}
use Rattle.std.proofs.lemmas.Str.{IsUtf8-string_bytes}
use Rattle.clap.specs.Values.{kind_of}
use Rattle.clap.specs.declared.error.Error.{Error}
use Rattle.clap.specs.declared.error.kind.ErrorKind.TheVariants.{OutOfMemory}
use Rattle.clap.specs.declared.parser.matches.ArgMatches.{ArgMatches}
use Rattle.clap.proofs.OnLiterals.{clap_on_literals}

-- the command above the others, once it is built
abbrev pub above : Shape
above = record top { is_leaf = false; is_built = true }

abbrev pub app : List Shape → App
app subs = record { top = above; subs = subs }

-- the subcommand with its rows, if nothing is at fault
abbrev pub answered : App → List Text → Option (Text × List Row)
answered a words = unless (built_fault a nothing_held words) (entered a (stop_after a.top.rules (names_of a) words))

no_rules : HasSingles []
no_rules = record { long = λ name. refl; short = λ x. refl; single = λ i a e. cc }

leaf_alone : (leaf : Shape) (rest : List Text) →
    unless (or_else (level_fault leaf [] nothing_held rest false []) []) (Some (rows_at leaf rest))
    ≡ option_map (λ rows. (leaf.name, rows)) (read leaf (at [] None 1 false) rest)
leaf_alone leaf rest = go (level_fault leaf [] nothing_held rest false [])
  where
    go : (faults : Kinds) → unless (or_else faults []) (Some (rows_at leaf rest))
        ≡ option_map (λ rows. (leaf.name, rows)) (unless faults (Some (rows_after leaf.rules [] rest)))
    go [] = refl
    go (k ∷ ks) = refl

module _ (subs : List Shape) where
  -- by the faults on the way and the end of the walk
  abbrev whole : Kinds → Walk → Option (Text × List Row)
  whole faults w = unless (or_else faults (or_else (entered_fault (app subs) w.stopped)
      (or_else (settle_fault [] false w.held)
      (or_else (defaults_fault (settled [] w.held).rows [])
      (check_fault above (finished [] w.held) (is_some (entered (app subs) w.stopped)))))))
      (entered (app subs) w.stopped)

  -- the name of a command, which reads the words after it
  pub hit : (leaf : Shape) (rest : List Text) →
      subcommand_met (names_of (app subs)) idle leaf.name ≡ Some leaf.name →
      bytes_eq leaf.name (codes "help") ≡ false →
      find (λ s. answers_to leaf.name (label_of s)) subs ≡ Some leaf →
      answered (app subs) (leaf.name ∷ rest)
      ≡ option_map (λ rows. (leaf.name, rows)) (read leaf (at [] None 1 false) rest)
  unfolding walk_fault walked defaults_fault
  hit leaf rest is no_help found =
      let names = names_of (app subs) in
      let start = walk_from nothing_held in
      let first : walked [] names start leaf.name ≡ record start { stopped = Some (leaf.name, []) } = rw is refl in
      let end = ap (λ w. fold (walked [] names) w rest) first ∙ sym (walk_stopped [] names start leaf.name [] rest) in
      let turn : turn_fault above names start leaf.name ≡ [] = rw is (rw no_help refl) in
      let none = ap₂ or_else turn
      (ap (λ w. walk_fault above names w rest) first ∙ stopped_fault above names start (leaf.name, []) rest) in
      ap₂ whole none end ∙ rw found (leaf_alone leaf rest)

  -- any other word
  pub miss : (word : Text) (rest : List Text) → IsUtf8 word →
      subcommand_met (names_of (app subs)) idle word ≡ None → answered (app subs) (word ∷ rest) ≡ None
  unfolding walk_fault walked defaults_fault
  miss word rest text is = go (bytes_eq word (codes "--")) refl (is_flag word) refl rest
    where
      go : (b : Bool) → bytes_eq word (codes "--") ≡ b → (f : Bool) → is_flag word ≡ f →
          (rest : List Text) → answered (app subs) (word ∷ rest) ≡ None
      go true e f flag [] = rw (is, e) refl
      go true e f flag (next ∷ rest) = rw (is, e) refl
      go false e true flag rest = rw is (rw (e, flag_unknown [] no_rules false [] None word text e flag) refl)
      go false e false flag rest = rw is (rw (e, (no_flag word flag).0) (rw (no_flag word flag).1 refl))

-- ---- one command of the program

-- a command with these operands, once it is built
abbrev leaf : Text → List Text → Shape
leaf name operands = built_leaf (inherited above (command_app name operands).top)

abbrev AreSingle : List Rule → Type 0
AreSingle [] = Unit {0}
AreSingle (a ∷ rest) = IsSingle a × AreSingle rest

single_found : (c : List Rule) (i : ℕ) → AreSingle c → (a : Rule) → arg_by_index c i ≡ Some a →
    IsSingle a
single_found [] i all a e = cc
single_found (x ∷ xs) i all a e =
    ⊎_elim
    (λ t. let here = rw t at e in let same : x ≡ a = cc in subst IsSingle same all.0)
    (λ t. single_found xs i all.1 a (rw t at e))
    (cases_Bool (option_map_or (λ k. k == i) x.index false))

abbrev task_read : Text → Option (List Row) → Option TaskValue
task_read name rows = task_found (option_map (λ rows. (name, rows)) rows)

-- the command's operands give its task
abbrev ReadsTask : Shape → List Text → Type 0
ReadsTask s given = task_read s.name (read s (at [] None 1 true) given) ≡ task_from s.name given

-- one that is met has its name, which is not that of the help, and is found by it
abbrev IsMet : Shape → Type 0
IsMet s =
    (subcommand_met (names_of (built program)) idle s.name ≡ Some s.name)
    × (bytes_eq s.name (codes "help") ≡ false)
    × (find (λ other. answers_to s.name (label_of other)) (built program).subs ≡ Some s)

-- it is one of the program's
record IsCommand (s : Shape) : Type 0 where
  singles : HasSingles s.rules
  reads : (given : List Text) → ReadsTask s given
  met : IsMet s

module _ (name operand : Text) where
  abbrev with_one : Shape
  with_one = leaf name (operand ∷ [])

  -- a command with one operand, by what it reads of no, one and more operands
  takes_one : ReadsTask with_one [] → ((x : Text) → ReadsTask with_one (x ∷ [])) →
      ((x y : Text) (r : List Text) → ReadsTask with_one (x ∷ y ∷ r)) → IsMet with_one → IsCommand with_one
  takes_one none one more met = record {
    singles = record {
      long = λ text. refl;
      short = λ x. refl;
      single = λ i. single_found with_one.rules i ((refl, refl, refl), tt);
    };
    reads = reads;
    met = met;
  }
    where
      reads : (given : List Text) → ReadsTask with_one given
      reads [] = none
      reads (x ∷ []) = one x
      reads (x ∷ y ∷ r) = more x y r

module _ (name first second third : Text) where
  abbrev with_three : Shape
  with_three = leaf name (first ∷ second ∷ third ∷ [])

  -- a command with three operands
  takes_three : ReadsTask with_three [] → ((x : Text) → ReadsTask with_three (x ∷ [])) →
      ((x y : Text) → ReadsTask with_three (x ∷ y ∷ [])) →
      ((x y z : Text) → ReadsTask with_three (x ∷ y ∷ z ∷ [])) →
      ((w x y z : Text) (r : List Text) → ReadsTask with_three (w ∷ x ∷ y ∷ z ∷ r)) →
      IsMet with_three → IsCommand with_three
  takes_three none one two three more met = record {
    singles = record {
      long = λ text. refl;
      short = λ x. refl;
      single = λ i. single_found with_three.rules i
          ((refl, refl, refl), ((refl, refl, refl), ((refl, refl, refl), tt)));
    };
    reads = reads;
    met = met;
  }
    where
      reads : (given : List Text) → ReadsTask with_three given
      reads [] = none
      reads (x ∷ []) = one x
      reads (x ∷ y ∷ []) = two x y
      reads (x ∷ y ∷ z ∷ []) = three x y z
      reads (w ∷ x ∷ y ∷ z ∷ r) = more w x y z r

-- ---- the first argument after the program's name, and those after it

abbrev Parsed : Text → List Text → Type 0
Parsed word rest = task_found (answered (built program) (word ∷ rest)) ≡ task_in (word ∷ rest)

-- the name of a command
named : (leaf : Shape) → IsCommand leaf → (rest : List Text) → All IsUtf8 rest →
    Parsed leaf.name rest
named leaf command rest text =
    ap task_found (hit (built program).subs leaf rest command.met.0 command.met.1 command.met.2)
    ∙ ap (task_read leaf.name) (as_operands leaf command.singles rest text [] None 1)
    ∙ go (operands rest)
  where
    go : (given : Option (List Text)) →
        task_read leaf.name (option_and_then (read leaf (at [] None 1 true)) given)
        ≡ option_and_then (task_from leaf.name) given
    go None = refl
    go (Some given) = command.reads given

-- no operands make a task of a word that is no command
not_given : (word : Text) → ((given : List Text) → None ≡ task_from word given) →
    (given : Option (List Text)) → None ≡ option_and_then (task_from word) given
not_given word none None = refl
not_given word none (Some given) = none given

module _ (word : Text) (rest : List Text) (text : All IsUtf8 (word ∷ rest)) where
  abbrev IsNot : Text → Type 0
  IsNot name = (bytes_eq word name ≡ false) × (bytes_eq name word ≡ false)

  -- the word is the name of the command, or it is not
  either : {s : Shape} → IsCommand s → (IsNot s.name → Parsed word rest) → Parsed word rest
  either {s} command differs =
      ⊎_elim
      (λ e. is ((bytes_eq-Decides word s.name).0 e))
      (λ e. ⊎_elim (λ f. is (sym ((bytes_eq-Decides s.name word).0 f))) (λ f. differs (e, f)) (cases_Bool (bytes_eq s.name word)))
      (cases_Bool (bytes_eq word s.name))
    where
      is : word ≡ s.name → Parsed word rest
      is same = rw same (named s command rest (All-tail IsUtf8 word rest text))

  one_word : Parsed word rest
  unfolding clap_on_literals
  one_word =
      either (takes_three (codes "one") (codes "scan") (codes "dir") (codes "ext") refl (λ x. refl) (λ x y. refl) (λ x y z. refl) (λ w x y z r. refl)
      (refl, refl, refl)) (λ one.
      either (takes_one (codes "collate") (codes "target") refl (λ x. refl) (λ x y r. refl) (refl, refl, refl)) (λ collate.
      either (takes_one (codes "show") (codes "dyndep") refl (λ x. refl) (λ x y r. refl) (refl, refl, refl)) (λ show.
      either (takes_three (codes "effect") (codes "name") (codes "edges") (codes "dyndep") refl (λ x. refl) (λ x y. refl) (λ x y z. refl) (λ w x y z r. refl)
      (refl, refl, refl)) (λ effect.
      either (takes_one (codes "order") (codes "edges") refl (λ x. refl) (λ x y r. refl) (refl, refl, refl)) (λ order.
      either (takes_one (codes "project") (codes "document") refl (λ x. refl) (λ x y r. refl) (refl, refl, refl)) (λ project.
      ap task_found (miss (built program).subs word rest (text 0 word (omega arith))
      (rw (one.1, collate.1, show.1, effect.1, order.1, project.1) refl))
      ∙ not_given word (λ given. rw (one.0, collate.0, show.0, effect.0, order.0, project.0) refl) (operands rest)))))))

-- the arguments after the program's name
pub parsed : (words : List Text) → All IsUtf8 words →
    task_found (answered (built program) words) ≡ task_in words
unfolding clap_on_literals
parsed [] text = refl
parsed (word ∷ rest) text = one_word word rest text

-- ---- a parse of all arguments

-- what a parse that succeeds has found
pub task_parsed : (a : App) (words : List Text) (m : ArgMatches) → a ≡ program →
    All IsUtf8 words → (is_simple_and_free a ≡ true → fault_of a words ≡ []) →
    HasMatchesOf a words m → task_found (subcommand_rows_of m) ≡ task_in (drop 1 words)
task_parsed a words m made text none found =
    let no_fault : fault_of program words ≡ [] =
    sym (ap (λ x. fault_of x words) made) ∙ none (ap is_simple_and_free made) in
    ap task_found ((found (ap is_simple made)).1 ∙ ap (λ x. subcommand_of x words) made)
    ∙ ap (λ faults. task_found (unless faults (subcommand_of program words))) (sym no_fault)
    ∙ parsed (drop 1 words) (All-drop IsUtf8 1 words text)

-- what a parse that fails with a fault has rejected
pub no_task : (a : App) (words : List Text) (e : Error) → a ≡ program → All IsUtf8 words →
    (is_simple_and_free a ≡ true → HasKind (fault_of a words) e) →
    (kind_of e ≡ OutOfMemory → ⊥) → None ≡ task_in (drop 1 words)
no_task a words e made text by other = elim (by (ap is_simple_and_free made)) [
  | inl memory ↦ absurd (other memory)
  | inr fault ↦ go (fault_of program words) refl (rw made at fault)
      ∙ parsed (drop 1 words) (All-drop IsUtf8 1 words text)
]
  where
    go : (faults : Kinds) → fault_of program words ≡ faults → IsAmong (kind_of e) faults →
        None ≡ task_found (unless (fault_of program words) (subcommand_of program words))
    go [] is among = absurd among
    go (k ∷ ks) is among =
        ap (λ faults. task_found (unless faults (subcommand_of program words))) (sym is)

-- the arguments are text
pub all_text : (arguments : List (String Global)) → All IsUtf8 (map string_bytes arguments)
all_text arguments =
    All-map IsUtf8 string_bytes arguments (λ k d lt. IsUtf8-string_bytes (slice_index_or arguments k d))
