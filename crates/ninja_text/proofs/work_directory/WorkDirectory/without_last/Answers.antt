use Rattle.std.proofs.Common.{ap, sym, ◌∙◌, subst, arith, length, take}
use Rattle.ninja_text.specs.inner.Joins.{IsDirectory}
use Rattle.ninja_text.proofs.Directories.{directory-front, directory-none}
use Rattle.ninja_text.proofs.work_directory.WorkDirectory.without_last.Goals as goal
use Rattle.ninja_text.proofs.work_directory.WorkDirectory.without_last.Goals.{After-len}

-- what is kept of the directory, as it is seen
kept : (c : After-len) → IsDirectory c.args.self.now c.self.inside.list.items c.self.inside.slashes.items c.self.inside.names c.self.inside.unwritable
kept c = subst (λ t. IsDirectory t c.self.inside.list.items c.self.inside.slashes.items c.self.inside.names c.self.inside.unwritable) c.self.view_is
    c.self.invariant

pub slice_bounds-result-end : goal.slice_bounds-result-end
slice_bounds-result-end c =
    let front = directory-front (kept (goal.at.slice_bounds-result-end c).After-len) c.args.count c.if-count-eq0.false c.requires c.in-Some.index
    c.index.result.now (omega (arith, c.in-Some.ensures.0, c.len.ensures, c.self.inside.slashes.ok.0))
    (omega (arith, c.in-Some.ensures.1, c.len.ensures, c.self.inside.slashes.ok.0)) in
    c.index.ensures ∙ front.0 ∙ ap length (sym front.1) ∙ ap (λ n. length (take n c.self.inside.list.items)) (sym c.index.ensures)
    ∙ ap (λ l. length (take c.index.result.now l)) (sym c.deref-in-Some.ensures.value)

pub returns-in-Some : goal.returns-in-Some
returns-in-Some c =
    let front = directory-front (kept (goal.at.returns-in-Some c).After-len) c.args.count c.if-count-eq0.false c.requires c.in-Some.index c.index.result.now
    (omega (arith, c.in-Some.ensures.0, c.len.ensures, c.self.inside.slashes.ok.0))
    (omega (arith, c.in-Some.ensures.1, c.len.ensures, c.self.inside.slashes.ok.0)) in
    ap (λ l. take c.index.result.now l) c.deref-in-Some.ensures.value ∙ ap (λ n. take n c.self.inside.list.items) c.index.ensures ∙ front.1

pub returns-in-None : goal.returns-in-None
returns-in-None c =
    directory-none (kept (goal.at.returns-in-None c).After-len) c.args.count c.if-count-eq0.false c.requires
    (λ le. c.in-None.ensures (omega (arith, c.len.ensures, c.self.inside.slashes.ok.0)))
