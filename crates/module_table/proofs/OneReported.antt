-- A sound table has no fault, and one fault at most is reported of a table.
use Rattle.std.proofs.Common.{◌≡◌, ℕ, List, ap, subst, sym, ◌∙◌, arith, slice_get, ◌<◌}
use Rattle.module_table.specs.Prelude.{enumerate_from, RuleValue, ModuleValue, TableValue, InfoRequires, InfoRequirement, module_requirements, requirements_of_info, info_requirements, DependsOn, provisions, Object, Info, ObjectTwice, InfoTwice, ProvidedTwice, BmiTwice, ModuleUnknown, InfoUnknown, InfoDisagrees, ImportCycle, ModulePrivate, PrivateUnknown, IsFirst, IsFirstRepetition, AllDiffer, IsReported, IsFirstRequired, HasPrivate, code_number, names_of, TableFault, Name}
use Rattle.module_table.specs.Outcomes.{SoundHasNoFault, IsSameFault, same, same_ring, OneTableFault}
use Rattle.module_table.proofs.Places.{one_file, neither_less, from_first}
use Rattle.ninja_text.proofs.ForCallers.{contained, from_map, from_flat_map}
use Rattle.dep_order.proofs.ForCallers.{one_cycle}
use Rattle.module_table.proofs.Found.{one_module}
use Rattle.module_table.proofs.Passing.{has_private}
use Rattle.module_table.proofs.Faultless.{names_differ}
use Rattle.module_table.proofs.Words.{Pair, maker_of, path_of, target_of, At}
use Rattle.module_table.proofs.Lists.{one_there}

-- ---- A sound table that keeps its own names has no fault

-- a requirement among those of all info files is one of a module of its info
requires_at : (t : TableValue) (k : ℕ) {r : InfoRequirement} → At (info_requirements t) k r →
    (j : ℕ) × (m : ModuleValue) × InfoRequires t r.info j m r.name r.file
requires_at t k {r} e =
    let part = from_flat_map requirements_of_info (enumerate_from 0 t.infos) k r e in
    let n = from_first t.infos part.0 part.2.0 part.2.1 in
    let info = part.2.0.1 in
    let inner = from_flat_map (module_requirements part.0 info.target) info.modules part.1 r (subst (λ x. At (requirements_of_info x) part.1 r) n.0 part.2.2) in
    let m = inner.2.0 in
    let pair = from_map (λ (p : Pair). let q : InfoRequirement = record { info = part.0; target = info.target; module_name = m.name; name = p.0; file = p.1 } in
    q) m.required inner.1 r inner.2.2 in (
      inner.0,
      m,
      subst (λ (q : InfoRequirement). InfoRequires t q.info inner.0 m q.name q.file) pair.2
          ((info, n.1, inner.2.1), contained m.required pair.0 (inner.1, pair.1)),
    )

pub sound_has_no_fault : SoundHasNoFault
sound_has_no_fault t kept sound own (ObjectTwice path first second) h =
    let a = from_map path_of t.objects h.0 path h.2.x_here in
    let b = from_map path_of t.objects h.1 path h.2.y_here in
    let same = sound.objects_differ h.0 h.1 a.0 b.0 a.1 b.1 (a.2 ∙ sym b.2) in
    omega (arith, h.2.earlier, same)
sound_has_no_fault t kept sound own (InfoTwice target) h =
    let a = from_map target_of t.infos h.0 target h.2.x_here in
    let b = from_map target_of t.infos h.1 target h.2.y_here in
    let same = sound.infos_differ h.0 h.1 a.0 b.0 a.1 b.1 (a.2 ∙ sym b.2) in
    omega (arith, h.2.earlier, same)
sound_has_no_fault t kept sound own (ProvidedTwice name first second) h =
    let same = sound.names_differ h.0 h.1 h.2 h.3 h.4.x_here h.4.y_here h.4.alike in
    omega (arith, h.4.earlier, same)
sound_has_no_fault t kept sound own (BmiTwice path first second) h = sound.files_differ h.0 h.1 h.2 h.3 h.4.earlier h.4.x_here h.4.y_here h.4.alike
sound_has_no_fault t kept sound own (ModuleUnknown name object) h =
    let known = sound.known object name (h.rule, h.first_object.here, contained h.rule.required name (h.index, h.first_name.here)) in
    h.first_name.holds known.0 known.1
sound_has_no_fault t kept sound own (InfoUnknown target module_name name) h =
    let r = requires_at t h.0 h.2.here in
    h.2.holds h.1.file (sound.infos_known h.1.info r.0 r.1 h.1.name h.1.file r.2)
sound_has_no_fault t kept sound own (InfoDisagrees target module_name name) h =
    let r = requires_at t h.0 h.2.here in
    let said = sound.infos_known h.1.info r.0 r.1 h.1.name h.1.file r.2 in
    let found = h.2.holds in
    found.2 (one_file t sound h.1.name found.0 h.1.file (Info found.1.0, found.1.1) (Info said.0, said.1))
sound_has_no_fault t kept sound own (ImportCycle objects) h = sound.acyclic objects.items h.is_cycle
sound_has_no_fault t kept sound own (ModulePrivate name info (Object object)) h =
    sound.objects_allowed object info name (h.0.rule, h.0.first_object.here, contained h.0.rule.required name (h.0.index, h.0.first_name.here)) h.1
sound_has_no_fault t kept sound own (ModulePrivate name info (Info user)) h =
    let r = requires_at t h.1.0 h.1.2.here in
    let found = h.1.2.holds in
    found.2 (sound.infos_allowed h.1.1.info r.0 found.0 r.1 h.1.1.name h.1.1.file r.2 found.1)
sound_has_no_fault t kept sound own (PrivateUnknown name) h =
    let mine = own name (contained kept name (h.0, h.1.here)) in
    h.1.holds mine.0 mine.1 mine.2 mine.3

-- ---- one fault at most is reported of a table

-- ---- there is one first

same_there : {X : Type 0} (xs : List X) {i j : ℕ} {x y : X} → i ≡ j → At xs i x → At xs j y → x ≡ y
same_there xs e at_i at_j = one_there (ap (slice_get xs) (sym e) ∙ at_i) at_j

module _ {X : Type 0} {xs : List X} where
  module _ {P : X → Type 0} {i j : ℕ} {x y : X} (p : IsFirst P xs i x) (q : IsFirst P xs j y) where
    one_place : i ≡ j
    one_place = neither_less (λ lt. q.before i x lt p.here p.holds) (λ gt. p.before j y gt q.here q.holds)

    one_first : x ≡ y
    one_first = same_there xs one_place p.here q.here

  module _ {Alike : X → X → Type 0} {i j k l : ℕ} {x y v w : X} (p : IsFirstRepetition Alike xs i j x y) (q : IsFirstRepetition Alike xs k l v w) where
    one_later : j ≡ l
    one_later =
        neither_less (λ lt. q.y_first i j x y p.earlier lt p.x_here p.y_here p.alike) (λ gt. p.y_first k l v w q.earlier gt q.x_here q.y_here q.alike)

    one_second : y ≡ w
    one_second = same_there xs one_later p.y_here q.y_here

    one_earlier : i ≡ k
    one_earlier =
        neither_less (λ lt. q.x_first i x lt p.x_here (subst (Alike x) one_second p.alike))
        (λ gt. p.x_first k v gt q.x_here (subst (Alike v) (sym one_second) q.alike))

    one_partner : x ≡ v
    one_partner = same_there xs one_earlier p.x_here q.x_here

module _ {P : List ℕ → Type 0} {objects : List RuleValue} {o u : ℕ} {name other : Name} (p : IsFirstRequired P objects o name)
    (q : IsFirstRequired P objects u other) where
  one_user : o ≡ u
  one_user = one_place p.first_object q.first_object

  one_required : name ≡ other
  one_required =
      one_first (subst (λ (r : RuleValue). IsFirst P r.required p.index name) (one_first p.first_object q.first_object) p.first_name) q.first_name

-- one info keeps a module
one_keeper : (t : TableValue) → AllDiffer (names_of (provisions t)) → (name : Name) (i j : ℕ) → HasPrivate t i name → HasPrivate t j name → i ≡ j
one_keeper t differ name i j p q =
    let a = has_private t i name p in
    let b = has_private t j name q in
    let makers = sym a.4 ∙ ap maker_of (one_module (provisions t) name differ a.0 b.0 a.2 b.2) ∙ b.4 in
    cc

by_same : {fault other : TableFault} → fault ≡ other → IsSameFault fault other
by_same {fault} e = subst (IsSameFault fault) e same

-- if a fault of that code is reported no name is provided twice
differ_below : (t : TableValue) (kept : List Name) (fault : TableFault) → IsReported t kept fault → 3 < code_number fault → AllDiffer (names_of (provisions t))
differ_below t kept fault told lt = names_differ t kept (λ name first second h. absurd (omega (arith, lt, told.lowest (ProvidedTwice name first second) h)))

-- ---- of each code one fault is reported

one_of_code : (t : TableValue) (kept : List Name) (fault other : TableFault) → code_number fault ≡ code_number other → IsReported t kept fault →
    IsReported t kept other → IsSameFault fault other
one_of_code t kept (ObjectTwice path first second) (ObjectTwice other third fourth) e a b =
    let p = a.present in
    let q = b.present in
    let i = one_earlier p.2 q.2 in
    let j = one_later p.2 q.2 in
    let is = one_second p.2 q.2 in
    by_same (cc)
one_of_code t kept (InfoTwice target) (InfoTwice other) e a b = by_same (ap InfoTwice (one_second a.present.2 b.present.2))
one_of_code t kept (ProvidedTwice name first second) (ProvidedTwice other third fourth) e a b =
    let p = a.present in
    let q = b.present in
    let x = one_partner p.4 q.4 in
    let y = one_second p.4 q.4 in
    by_same (cc)
one_of_code t kept (BmiTwice path first second) (BmiTwice other third fourth) e a b =
    let p = a.present in
    let q = b.present in
    let x = one_partner p.4 q.4 in
    let y = one_second p.4 q.4 in
    by_same (cc)
one_of_code t kept (ModuleUnknown name object) (ModuleUnknown other user) e a b =
    let n = one_required a.present b.present in
    let o = one_user a.present b.present in
    by_same (cc)
one_of_code t kept (InfoUnknown target module_name name) (InfoUnknown other_target other_module other) e a b =
    let p = a.present in
    let q = b.present in
    let r = one_first p.2 q.2 in
    by_same (cc)
one_of_code t kept (InfoDisagrees target module_name name) (InfoDisagrees other_target other_module other) e a b =
    let p = a.present in
    let q = b.present in
    let r = one_first p.2 q.2 in
    by_same (cc)
one_of_code t kept (ImportCycle ring) (ImportCycle other) e a b = same_ring (one_cycle (DependsOn t) ring.items other.items a.present b.present)
one_of_code t kept (ModulePrivate name info (Object object)) (ModulePrivate other keeper (Object user)) e a b =
    let n = one_required a.present.0 b.present.0 in
    let o = one_user a.present.0 b.present.0 in
    let k : info ≡ keeper = one_keeper t (differ_below t kept _ a (omega arith)) other info keeper (subst (HasPrivate t info) n a.present.1) b.present.1 in
    by_same (cc)
one_of_code t kept (ModulePrivate name info (Object object)) (ModulePrivate other keeper (Info user)) e a b =
    let p = a.present.0 in
    absurd (b.present.0 object name (p.rule, p.first_object.here, contained p.rule.required name (p.index, p.first_name.here)) p.first_name.holds)
one_of_code t kept (ModulePrivate name info (Info user)) (ModulePrivate other keeper (Object object)) e a b =
    let q = b.present.0 in
    absurd (a.present.0 object other (q.rule, q.first_object.here, contained q.rule.required other (q.index, q.first_name.here)) q.first_name.holds)
one_of_code t kept (ModulePrivate name info (Info user)) (ModulePrivate other keeper (Info third)) e a b =
    let p = a.present.1 in
    let q = b.present.1 in
    let r = one_first p.2 q.2 in
    let n = sym p.3 ∙ ap (λ (z : InfoRequirement). z.name) r ∙ q.3 in
    let k : info ≡ keeper = one_keeper t (differ_below t kept _ a (omega arith)) other info keeper (subst (HasPrivate t info) n p.5) q.5 in
    by_same (cc)
one_of_code t kept (PrivateUnknown name) (PrivateUnknown other) e a b = by_same (ap PrivateUnknown (one_first a.present.1 b.present.1))
one_of_code t kept fault other e a b = absurd (omega (arith, e))

pub one_told : OneTableFault
one_told t kept fault other a b =
    one_of_code t kept fault other (omega (arith, a.lowest other b.present, b.lowest fault a.present)) a b
