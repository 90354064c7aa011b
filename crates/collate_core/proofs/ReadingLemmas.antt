-- Documents that are read one after another, some of which are listed again.
use Rattle.std.proofs.Common.{◌≡◌, ℕ, zero, suc, MatchOption, ◌+◌, ◌<◌, ◌≤◌, ◌⊎◌, Bool, true, false, List, [], ◌∷◌, ◌++◌, length, map, take, Option, Some, None, IfSome, is_some, refl, ap, ap₂, subst, sym, ◌∙◌, inl, inr, ⊎_elim, arith, slice_get, All, Bor, append_assoc, append-nil, length-append, true≢false}
use Rattle.std.proofs.lemmas.List.{map_push, take_all, nil_from_length, length-map, length-take}
use Rattle.std.proofs.lemmas.List.Elements.{All-push, All-append}
use Rattle.std.proofs.lemmas.Option.{slice_get_within}
use Rattle.ninja_text.specs.Firsts.{AllDiffer}
use Rattle.ninja_text.proofs.ForCallers.{same_some, element_at, to_map, in_first, in_second, in_take, in_flat_map, offset, take_next}
use Rattle.collate_core.specs.Prelude.{Fault, ForFault, Failure, IsRefused, scan_checks, info_checks, SettingValue, IsRuleText, RuleValue, InfoValue, IsInfoText, rules_of, info_of, DocFault, TooLarge, Document, all_rules, rule_limit, IsScanAccepted, IsInfoAccepted, AreScansAccepted, IsScanRefusal, IsInfoRefusal, IsReadAs, AreInfosRead, IsBeginning, Listed, First, Again, first_bytes, listed_as, bytes_listed, lent_texts, Text}
use Rattle.collate_core.proofs.Lists.{all_at, flat_map_last}

-- ---- listed documents

abbrev pub lent : Listed (Bor Text) → Listed Text
lent document = listed_as (λ (bytes : Bor Text). bytes.now) document

-- the bytes of a listed document
pub text_at : (ds : List (Listed (Bor Text))) (k : ℕ) (d : Listed (Bor Text)) → slice_get ds k ≡ Some d →
    slice_get (lent_texts ds) k ≡ Some (bytes_listed (map lent ds) (lent d))
text_at ds k d at = to_map (bytes_listed (map lent ds)) (map lent ds) k (lent d) (to_map lent ds k d at)

-- one that is listed again
pub again_at : (ds : List (Listed (Bor Text))) (k j : ℕ) (at_j : Option (Listed Text)) → slice_get ds k ≡ Some (Again j) →
    slice_get (map lent ds) j ≡ at_j → slice_get (lent_texts ds) k ≡ Some (first_bytes at_j)
again_at ds k j at_j at found = text_at ds k (Again j) at ∙ ap (λ o. Some (first_bytes o)) found

-- the documents have these bytes, whatever is listed after them
abbrev pub HaveTexts : List (Listed (Bor Text)) → List Text → Type 0
HaveTexts ds texts = (more : List (Listed Text)) → map (bytes_listed (map lent ds ++ more)) (map lent ds) ≡ texts

pub first_more : (ds : List (Listed (Bor Text))) {texts : List Text} (bytes : Bor Text) {text : Text} → HaveTexts ds texts → bytes.now ≡ text →
    HaveTexts (ds ++ First bytes ∷ []) (texts ++ text ∷ [])
first_more ds {texts} bytes {text} have same more =
    let first : Listed Text = First bytes.now in
    ap (λ vs. map (bytes_listed (vs ++ more)) vs) (map_push lent ds (First bytes))
    ∙ map_push (bytes_listed ((map lent ds ++ first ∷ []) ++ more)) (map lent ds) first
    ∙ ap₂ (λ (xs : List Text) (x : Text). xs ++ x ∷ [])
    (ap (λ vs. map (bytes_listed vs) (map lent ds)) (append_assoc (map lent ds) (first ∷ []) more) ∙ have (first ∷ more)) same

-- one that is listed again, and the bytes of the one that is listed first
pub again_more : (ds : List (Listed (Bor Text))) {texts : List Text} (k : ℕ) (text : Text) → HaveTexts ds texts →
    slice_get (map lent ds) k ≡ Some (First text) → HaveTexts (ds ++ Again k ∷ []) (texts ++ text ∷ [])
again_more ds {texts} k text have at more =
    let again : Listed Text = Again k in
    ap (λ vs. map (bytes_listed (vs ++ more)) vs) (map_push lent ds (Again k))
    ∙ map_push (bytes_listed ((map lent ds ++ again ∷ []) ++ more)) (map lent ds) again
    ∙ ap₂ (λ (xs : List Text) (x : Text). xs ++ x ∷ [])
    (ap (λ vs. map (bytes_listed vs) (map lent ds)) (append_assoc (map lent ds) (again ∷ []) more) ∙ have (again ∷ more))
    (ap first_bytes (ap (λ vs. slice_get vs k) (append_assoc (map lent ds) (again ∷ []) more) ∙ in_first (map lent ds) (again ∷ more) k (First text) at))

pub have_all : (ds : List (Listed (Bor Text))) {texts : List Text} → HaveTexts ds texts → lent_texts ds ≡ texts
have_all ds have = ap (λ vs. map (bytes_listed vs) (map lent ds)) (sym (append-nil (map lent ds))) ∙ have []

-- ---- a beginning of what is read, which ends after a repetition if it is cut

pub record SoFar {X : Type 0} (text_of : X → Text) (part whole : List X) (is_cut : Bool) : Type 0 where
  pub rest : List X
  pub joined : part ++ rest ≡ whole
  pub all : is_cut ≡ false → rest ≡ []
  pub repeats : is_cut ≡ true → AllDiffer (map text_of part) → ⊥

module _ {X : Type 0} {text_of : X → Text} {part whole : List X} where
  is_whole : {is_cut : Bool} → SoFar text_of part whole is_cut → is_cut ≡ false → part ≡ whole
  is_whole so uncut = sym (append-nil part) ∙ ap (λ xs. part ++ xs) (sym (so.all uncut)) ∙ so.joined

  -- nothing is added to the part
  left_out : {is_cut : Bool} (more : List X) → SoFar text_of part whole is_cut → (is_cut ≡ false → more ≡ []) → SoFar text_of part (whole ++ more) is_cut
  left_out more so none = record {
    rest = so.rest ++ more;
    joined = sym (append_assoc part so.rest more) ∙ ap (λ xs. xs ++ more) so.joined;
    all = λ uncut. ap₂ (λ xs ys. xs ++ ys) (so.all uncut) (none uncut);
    repeats = so.repeats;
  }

  -- all is added to what is whole, and its first element repeats one if this is said
  put : {is_cut : Bool} (more : List X) (twice : Bool) → SoFar text_of part whole is_cut → is_cut ≡ false →
      (twice ≡ true → (j : ℕ) × (y : X) × (slice_get whole j ≡ Some y) × (slice_get more 0 ≡ Some y)) →
      SoFar text_of (part ++ more) (whole ++ more) twice
  put more twice so uncut again =
      let same = is_whole so uncut in
      record {
        rest = [];
        joined = append-nil (part ++ more) ∙ ap (λ xs. xs ++ more) same;
        all = λ _. refl;
        repeats = λ is differ.
            let found = again is in
            let at_first = subst (λ xs. slice_get xs found.0 ≡ Some found.1) (sym same) found.2 in
            differ.differ found.0 (length part + 0) (text_of found.1) (omega (arith, slice_get_within part found.0 found.1 at_first))
            (to_map text_of (part ++ more) found.0 found.1 (in_first part more found.0 found.1 at_first))
            (to_map text_of (part ++ more) (length part + 0) found.1 (in_second part more 0 found.1 found.3));
      }

  ends : {is_cut : Bool} → SoFar text_of part whole is_cut → IsBeginning text_of part whole
  ends {is_cut = false} so = record { rest = so.rest; joined = so.joined; is_whole = λ differ. is_whole so refl }
  ends {is_cut = true} so = record { rest = so.rest; joined = so.joined; is_whole = λ differ. absurd (so.repeats refl differ) }

positive : (n : ℕ) → (n ≡ 0 → ⊥) → 0 < n
positive zero some = absurd (some refl)
positive (suc n) some = omega arith

-- ---- scan documents

-- The first scan documents are accepted. These are the rules that are kept of them, the numbers of
-- their rules, and the number of all.
pub record RulesSoFar (s : SettingValue) (scans : List Text) (i : ℕ) (rules : List RuleValue) (counts : List ℕ) (total : ℕ) (is_cut : Bool) : Type 0 where
  pub accepted : AreScansAccepted s (take i scans)
  pub total_is : total ≡ length (all_rules s (take i scans))
  pub counts_are : counts ≡ map (λ scan. length (rules_of s scan)) (take i scans)
  pub begins : SoFar (λ rule. rule.object) rules (all_rules s (take i scans)) is_cut
  pub text : All IsRuleText rules

pub no_rules : (s : SettingValue) (scans : List Text) → RulesSoFar s scans 0 [] [] 0 false
no_rules s scans = record {
  accepted = record { each = λ k d lt. absurd (omega (arith, lt)); limit = omega arith };
  total_is = refl;
  counts_are = refl;
  begins = record { rest = []; joined = refl; all = λ _. refl; repeats = λ is. absurd (cc) };
  text = λ k d lt. absurd (omega (arith, lt));
}

module _ {s : SettingValue} {scans : List Text} {i : ℕ} {rules : List RuleValue} {counts : List ℕ} {total : ℕ} {is_cut : Bool}
    (so : RulesSoFar s scans i rules counts total is_cut) where
  counted : length counts ≡ length (take i scans)
  counted = ap length so.counts_are ∙ length-map (take i scans) (λ scan. length (rules_of s scan))

  count_at : (k : ℕ) (scan : Text) → k < i → slice_get scans k ≡ Some scan → slice_get counts k ≡ Some (length (rules_of s scan))
  count_at k scan lt at =
      ap (λ ns. slice_get ns k) so.counts_are ∙ to_map (λ scan. length (rules_of s scan)) (take i scans) k scan (in_take i scans k scan lt at)

  accepted_at : (k : ℕ) (scan : Text) → k < i → slice_get scans k ≡ Some scan → IsScanAccepted s scan
  accepted_at k scan lt at = all_at (IsScanAccepted s) (take i scans) k so.accepted.each (in_take i scans k scan lt at)

  -- as many as documents
  pub within : {k : ℕ} {scan : Text} → slice_get scans i ≡ Some scan → k < i → k < length counts
  within here lt = let past = slice_get_within scans i _ here in omega (arith, counted, length-take i scans, lt, past)

  pub short : total ≤ rule_limit
  short = subst (λ n. n ≤ rule_limit) (sym so.total_is) so.accepted.limit

  module _ (scan : Text) (here : slice_get scans i ≡ Some scan) where
    next_rules : all_rules s (take i scans) ++ rules_of s scan ≡ all_rules s (take (i + 1) scans)
    next_rules = sym (flat_map_last (rules_of s) (take i scans) scan) ∙ ap (all_rules s) (sym (take_next scans i scan here))

    next_total : (count sum : ℕ) → count ≡ length (rules_of s scan) → sum ≡ total + count → sum ≡ length (all_rules s (take (i + 1) scans))
    next_total count sum is added =
        added ∙ ap₂ (λ (m n : ℕ). m + n) so.total_is is ∙ sym (length-append (all_rules s (take i scans)) (rules_of s scan)) ∙ ap length next_rules

    -- one document more, of which these rules are kept
    more : (count sum : ℕ) (kept : List RuleValue) (cut : Bool) → IsScanAccepted s scan → count ≡ length (rules_of s scan) → sum ≡ total + count →
        sum ≤ rule_limit → SoFar (λ rule. rule.object) kept (all_rules s (take i scans) ++ rules_of s scan) cut → All IsRuleText kept →
        RulesSoFar s scans (i + 1) kept (counts ++ count ∷ []) sum cut
    more count sum kept cut accepted is added limit begins text = record {
      accepted = record {
        each = subst (All (IsScanAccepted s)) (sym (take_next scans i scan here)) (All-push (IsScanAccepted s) (take i scans) scan so.accepted.each accepted);
        limit = subst (λ n. n ≤ rule_limit) (next_total count sum is added) limit;
      };
      total_is = next_total count sum is added;
      counts_are = ap₂ (λ (ns : List ℕ) (n : ℕ). ns ++ n ∷ []) so.counts_are is ∙ sym (map_push (λ scan. length (rules_of s scan)) (take i scans) scan)
          ∙ ap (map (λ scan. length (rules_of s scan))) (sym (take_next scans i scan here));
      begins = subst (λ (all : List RuleValue). SoFar (λ rule. rule.object) kept all cut) next_rules begins;
      text = text;
    }

    -- it was listed before, and is not parsed again
    pub not_parsed : {count sum : ℕ} (k : ℕ) → k < i → slice_get scans k ≡ Some scan → slice_get counts k ≡ Some count →
        (is_cut ≡ true) ⊎ (slice_get counts k ≡ Some 0) → sum ≡ total + count → sum ≤ rule_limit → RulesSoFar s scans (i + 1) rules (counts ++ count ∷ []) sum is_cut
    not_parsed {count} {sum} k lt at at_count why added limit =
        let is : count ≡ length (rules_of s scan) = same_some _ _ (sym at_count ∙ count_at k scan lt at) in
        more count sum rules is_cut (accepted_at k scan lt at) is added limit
        (left_out (rules_of s scan) so.begins
        (λ uncut. ⊎_elim (λ cut. absurd (true≢false (sym cut ∙ uncut))) (λ none. nil_from_length (rules_of s scan) (same_some _ _ (sym (count_at k scan lt at) ∙ none))) why))
        so.text

    -- its rules are left out
    pub cut_off : {found : List RuleValue} {count sum : ℕ} → IsScanAccepted s scan → found ≡ rules_of s scan → count ≡ length found → is_cut ≡ true →
        sum ≡ total + count → sum ≤ rule_limit → RulesSoFar s scans (i + 1) rules (counts ++ count ∷ []) sum is_cut
    cut_off {found} {count} {sum} accepted is as_many cut added limit =
        more count sum rules is_cut accepted (as_many ∙ ap length is) added limit
        (left_out (rules_of s scan) so.begins (λ uncut. absurd (true≢false (sym cut ∙ uncut)))) so.text

    -- its rules are added, and are repeated if it was listed before
    pub added : {found : List RuleValue} {count sum : ℕ} (before : Option ℕ) → IsScanAccepted s scan → found ≡ rules_of s scan → All IsRuleText found →
        count ≡ length found → is_cut ≡ false → sum ≡ total + count → sum ≤ rule_limit →
        IfSome before (λ k. (k < i) × (slice_get scans k ≡ Some scan)) →
        IfSome before (λ k. (is_cut ≡ false) × (slice_get counts k ≡ Some 0 → ⊥)) →
        RulesSoFar s scans (i + 1) (rules ++ found) (counts ++ count ∷ []) sum (is_some before)
    added {found} {count} {sum} before accepted is text as_many uncut raised limit at some =
        more count sum (rules ++ found) (is_some before) accepted (as_many ∙ ap length is) raised limit
        (subst (λ (rs : List RuleValue). SoFar (λ rule. rule.object) (rules ++ rs) (all_rules s (take i scans) ++ rules_of s scan) (is_some before)) (sym is)
        (put (rules_of s scan) (is_some before) so.begins uncut (again before at some)))
        (All-append IsRuleText rules found so.text text)
      where
        again : (before : Option ℕ) → IfSome before (λ k. (k < i) × (slice_get scans k ≡ Some scan)) →
            IfSome before (λ k. (is_cut ≡ false) × (slice_get counts k ≡ Some 0 → ⊥)) → is_some before ≡ true →
            (j : ℕ) × (y : RuleValue) × (slice_get (all_rules s (take i scans)) j ≡ Some y) × (slice_get (rules_of s scan) 0 ≡ Some y)
        again None at some is = absurd (cc)
        again (Some k) at some is =
            let first = element_at (rules_of s scan) 0 (positive (length (rules_of s scan)) (λ none. some.1 (count_at k scan at.0 at.1 ∙ ap Some none))) in (
              offset (rules_of s) (take i scans) k + 0,
              first.0,
              in_flat_map (rules_of s) (take i scans) k 0 first.0 (scan, in_take i scans k scan at.0 at.1, first.1),
              first.1,
            )

    pub past_limit : {count : ℕ} → IsScanAccepted s scan → count ≡ length (rules_of s scan) → rule_limit < total + count →
        IsScanRefusal s scans i (TooLarge Document)
    past_limit {count} accepted is past = record {
      before = so.accepted;
      scan = scan;
      here = here;
      faulty = inr (accepted, subst (λ n. rule_limit < n) (next_total count (total + count) is refl) past, refl);
    }

    -- it was listed before
    pub again_past_limit : {count : ℕ} (k : ℕ) → k < i → slice_get scans k ≡ Some scan → slice_get counts k ≡ Some count → rule_limit < total + count →
        IsScanRefusal s scans i (TooLarge Document)
    again_past_limit k lt at at_count past = past_limit (accepted_at k scan lt at) (same_some _ _ (sym at_count ∙ count_at k scan lt at)) past

    pub refused_scan : {failure : Failure DocFault} {fault : DocFault} → failure ≡ Fault fault → ForFault (IsRefused (scan_checks s) scan) failure →
        IsScanRefusal s scans i fault
    refused_scan is refused = record {
      before = so.accepted;
      scan = scan;
      here = here;
      faulty = inl (subst (ForFault (IsRefused (scan_checks s) scan)) is refused);
    }

-- all scan documents were read
pub all_scans : {s : SettingValue} {scans : List Text} {i : ℕ} {rules : List RuleValue} {counts : List ℕ} {total : ℕ} {is_cut : Bool} → length scans ≤ i →
    RulesSoFar s scans i rules counts total is_cut →
    AreScansAccepted s scans × IsBeginning (λ rule. rule.object) rules (all_rules s scans) × (is_cut ≡ false → rules ≡ all_rules s scans)
all_scans {s} {scans} {i} {rules} {counts} {total} {is_cut} past so =
    let all = take_all i scans past in (
      subst (AreScansAccepted s) all so.accepted,
      subst (λ (ds : List Text). IsBeginning (λ rule. rule.object) rules (all_rules s ds)) all (ends so.begins),
      λ uncut. is_whole so.begins uncut ∙ ap (all_rules s) all,
    )

-- as many texts as documents
pub as_many : (ds : List (Listed (Bor Text))) {i : ℕ} → length ds ≤ i → length (lent_texts ds) ≤ i
as_many ds {i} past =
    subst (λ n. n ≤ i) (sym (length-map (map lent ds) (bytes_listed (map lent ds)) ∙ length-map ds lent)) past

-- ---- info documents

-- The first info documents are accepted, and these info files are kept of them.
pub record InfosSoFar (documents : List Text) (i : ℕ) (infos : List InfoValue) (is_cut : Bool) : Type 0 where
  pub accepted : All IsInfoAccepted (take i documents)
  pub begins : SoFar (λ info. info.target) infos (map info_of (take i documents)) is_cut
  pub text : All IsInfoText infos

pub no_infos : (documents : List Text) → InfosSoFar documents 0 [] false
no_infos documents = record {
  accepted = λ k d lt. absurd (omega (arith, lt));
  begins = record { rest = []; joined = refl; all = λ _. refl; repeats = λ is. absurd (cc) };
  text = λ k d lt. absurd (omega (arith, lt));
}

module _ {documents : List Text} {i : ℕ} {infos : List InfoValue} {is_cut : Bool} (so : InfosSoFar documents i infos is_cut) (document : Text)
    (here : slice_get documents i ≡ Some document) where
  more_infos : (kept : List InfoValue) (cut : Bool) → IsInfoAccepted document →
      SoFar (λ info. info.target) kept (map info_of (take i documents) ++ info_of document ∷ []) cut → All IsInfoText kept → InfosSoFar documents (i + 1) kept cut
  more_infos kept cut accepted begins text = record {
    accepted = subst (All IsInfoAccepted) (sym (take_next documents i document here)) (All-push IsInfoAccepted (take i documents) document so.accepted accepted);
    begins = subst (λ (all : List InfoValue). SoFar (λ info. info.target) kept all cut)
        (sym (map_push info_of (take i documents) document) ∙ ap (map info_of) (sym (take_next documents i document here))) begins;
    text = text;
  }

  pub info_left_out : IsInfoAccepted document → is_cut ≡ true → InfosSoFar documents (i + 1) infos is_cut
  info_left_out accepted cut =
      more_infos infos is_cut accepted (left_out (info_of document ∷ []) so.begins (λ uncut. absurd (true≢false (sym cut ∙ uncut)))) so.text

  pub info_not_parsed : (before : Option ℕ) → is_some before ≡ true → IfSome before (λ k. (k < i) × (slice_get documents k ≡ Some document)) → is_cut ≡ true →
      InfosSoFar documents (i + 1) infos is_cut
  info_not_parsed None is at cut = absurd (cc)
  info_not_parsed (Some k) is at cut =
      info_left_out (all_at IsInfoAccepted (take i documents) k so.accepted (in_take i documents k document at.0 at.1)) cut

  pub info_unread : (Otherwise : Type 0) (found before : Option ℕ) → is_some found ≡ true →
      MatchOption found Otherwise (λ k. (before ≡ Some k) × ((is_cut ≡ true) ⊎ (slice_get {X = ℕ} [] k ≡ Some 0))) →
      IfSome before (λ k. (k < i) × (slice_get documents k ≡ Some document)) → InfosSoFar documents (i + 1) infos is_cut
  info_unread Otherwise None before is h at = absurd (cc)
  info_unread Otherwise (Some k) before is h at =
      info_not_parsed before (ap is_some h.0) at (⊎_elim (λ cut. cut) (λ none. absurd (cc)) h.1)

  pub info_added : {info : InfoValue} (before : Option ℕ) → IsReadAs document info → is_cut ≡ false →
      IfSome before (λ k. (k < i) × (slice_get documents k ≡ Some document)) →
      InfosSoFar documents (i + 1) (infos ++ info ∷ []) (is_some before)
  info_added {info} before read uncut at =
      more_infos (infos ++ info ∷ []) (is_some before) read.accepted
      (subst (λ (value : InfoValue). SoFar (λ info. info.target) (infos ++ value ∷ []) (map info_of (take i documents) ++ info_of document ∷ []) (is_some before))
      (sym read.value) (put (info_of document ∷ []) (is_some before) so.begins uncut (again before at)))
      (All-push IsInfoText infos info so.text read.text)
    where
      again : (before : Option ℕ) → IfSome before (λ k. (k < i) × (slice_get documents k ≡ Some document)) → is_some before ≡ true →
          (j : ℕ) × (y : InfoValue) × (slice_get (map info_of (take i documents)) j ≡ Some y) × (slice_get (info_of document ∷ []) 0 ≡ Some y)
      again None at is = absurd (cc)
      again (Some k) at is = (k, info_of document, to_map info_of (take i documents) k document (in_take i documents k document at.0 at.1), refl)

  pub refused_info : {failure : Failure DocFault} {fault : DocFault} → failure ≡ Fault fault → ForFault (IsRefused info_checks document) failure →
      IsInfoRefusal documents i fault
  refused_info is refused = record {
    before = so.accepted;
    info = document;
    here = here;
    faulty = subst (ForFault (IsRefused info_checks document)) is refused;
  }

-- all info documents were read
pub all_infos : {documents : List Text} {i : ℕ} {infos : List InfoValue} {is_cut : Bool} → length documents ≤ i → InfosSoFar documents i infos is_cut →
    AreInfosRead documents infos
all_infos {documents} {i} {infos} {is_cut} past so =
    let all = take_all i documents past in
    record {
      accepted = subst (All IsInfoAccepted) all so.accepted;
      values = subst (λ (ds : List Text). IsBeginning (λ info. info.target) infos (map info_of ds)) all (ends so.begins);
      text = so.text;
    }
