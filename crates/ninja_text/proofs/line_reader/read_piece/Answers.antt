use Rattle.std.proofs.Common.{◌≡◌, ◌++◌, ◌∙◌, [], ◌∷◌, length, take, drop, ap, sym, subst, arith, rules, tests}
use Rattle.std.proofs.lemmas.List.{append-nil}
use Rattle.std.specs.Prelude.{Err}
use Rattle.ninja_text.specs.Cutting.{Cuts, lent_next}
use Rattle.ninja_text.specs.LineViews.{seen_line}
use Rattle.ninja_text.specs.LineReading.{HasLent, HasFailureBehind}
use Rattle.ninja_text.specs.inner.PieceReading.{failure_of}
use Rattle.ninja_text.proofs.Feeds.{moves_on, below_limit, lends_none, lends_some, err_waits, never_failed, lead_on, lent_more, failure_fed, line_refused, no_bytes}
use Rattle.ninja_text.proofs.Lists.{to_the_end}
use Rattle.ninja_text.proofs.line_reader.read_piece.Goals as goal

pub loop-rest-preserved-in-Ok-None : goal.loop-rest-preserved-in-Ok-None
loop-rest-preserved-in-Ok-None g c =
    let old = c.loop-rest.cutter in
    let new = c.feed.new.self in
    let rest = c.loop-rest.rest.now in
    let n = c.in-Ok.taken in
    let none = rw c.in-Ok-None.field-0-is at c.in-Ok-None.ensures.line in
    let same = lends_none new c.next_line.follows.lender-at-none c.next_line.follows.holds-at-none.value none.0 none.1 in
    record {
      waits_not = ap (λ k. k.waits) same ∙ none.1;
      read = λ bytes lent before.
          let f = c.loop-rest.invariant.read bytes lent before in (
            f.0 ++ take n rest,
            f.1,
            ap (λ r. (f.0 ++ take n rest) ++ r) (to_the_end n rest) ∙ moves_on f.0 rest (bytes ++ c.args.piece.now) n f.2,
            subst (λ k. HasLent (f.0 ++ take n rest) (lent ++ f.1) k) (sym same) (record {
              cuts = c.in-Ok.ensures.all f.0 (lent ++ f.1) f.3.cuts;
              waits_not = none.1;
              works = none.0;
              short = below_limit old rest n new f.3.works f.3.waits_not c.in-Ok.ensures.exact none.1;
            }),
            f.4,
          );
    }

pub loop-rest-preserved : goal.loop-rest-preserved
loop-rest-preserved g c =
    let new = c.feed.new.self in
    let rest = c.loop-rest.rest.now in
    let n = c.in-Ok.taken in
    let after = c.next_line.follows.lender-at-none in
    let line = seen_line c.in-Ok-Some.line in
    let some = rw c.in-Ok-Some.field-0-is at c.in-Ok-Some.ensures.line in
    let lends = lends_some new after c.next_line.follows.holds-at-none.value some.0 some.1 in
    record {
      waits_not = lends.0;
      read = λ bytes lent before.
          let f = c.loop-rest.invariant.read bytes lent before in
          let cuts = c.next_line.follows.holds-at-none.all (f.0 ++ take n rest) (lent ++ f.1) (c.in-Ok.ensures.all f.0 (lent ++ f.1) f.3.cuts) in
          let is : lent_next new ≡ line ∷ [] = lends.3 ∙ ap (λ l. l ∷ []) (sym some.2) in (
            f.0 ++ take n rest,
            f.1 ++ line ∷ [],
            ap (λ r. (f.0 ++ take n rest) ++ r) (to_the_end n rest) ∙ moves_on f.0 rest (bytes ++ c.args.piece.now) n f.2,
            record {
              cuts = lent_more (f.0 ++ take n rest) lent f.1 line after (subst (λ ls. Cuts (f.0 ++ take n rest) ((lent ++ f.1) ++ ls) after) is cuts);
              waits_not = lends.0;
              works = lends.1;
              short = let none : length after.bytes ≡ 0 = ap length lends.2 in omega arith;
            },
            lead_on g.S.LineState.passes c.args.state.now f.1 c.loop-rest.state c.read_line.new.self line f.4 c.in_ok-read_line-in-Ok-Some.ensures,
          );
    }

pub returns-in-Err-clause-waits_not : goal.returns-in-Err-clause-waits_not
returns-in-Err-clause-waits_not g c =
    err_waits c.loop-rest.cutter c.loop-rest.rest.now c.in-Err.failure c.feed.new.self c.loop-rest.invariant.waits_not c.in-Err.ensures.exact

pub returns-in-Err-clause-all : goal.returns-in-Err-clause-all
returns-in-Err-clause-all g c = λ bytes lent before.
    let f = c.loop-rest.invariant.read bytes lent before in
    let p = g.S.LineState in
    let is : c.map.result ≡ failure_of p.of_cutter c.in-Err.failure = search (rules, tests) in
    subst (HasFailureBehind p.passes p.refuses p.of_cutter (bytes ++ c.args.piece.now) lent c.args.state.now) (sym is)
    (failure_fed p.passes p.refuses p.of_cutter f.0 c.loop-rest.rest.now (bytes ++ c.args.piece.now) lent f.1 c.loop-rest.cutter c.args.state.now
    c.loop-rest.state c.in-Err.failure c.feed.new.self
    f.2 f.3 f.4 c.in-Err.ensures.exact)

pub returns-in-Err-next_line-clause-all : goal.returns-in-Err-next_line-clause-all
returns-in-Err-next_line-clause-all g c =
    absurd (never_failed c.loop-rest.cutter c.loop-rest.rest.now c.in-Ok.taken c.feed.new.self c.in-Ok.ensures.exact c.in-Err-next_line.ensures.line.0)

pub returns-in_err-read_line-in-Ok-Some-clause-all : goal.returns-in_err-read_line-in-Ok-Some-clause-all
returns-in_err-read_line-in-Ok-Some-clause-all g c = λ bytes lent before.
    let f = c.loop-rest.invariant.read bytes lent before in
    let p = g.S.LineState in
    let n = c.in-Ok.taken in
    let rest = c.loop-rest.rest.now in
    let some = rw c.in-Ok-Some.field-0-is at c.in-Ok-Some.ensures.line in
    let is : c.from_residual.result ≡ Err c.in_err-read_line-in-Ok-Some.field-0.0 = search (rules, c.from_residual.ensures) in
    rw is (line_refused p.passes p.refuses p.of_cutter (f.0 ++ take n rest) (drop n rest) (bytes ++ c.args.piece.now) lent f.1 c.feed.new.self c.args.state.now
    c.loop-rest.state c.read_line.new.self
    (seen_line c.in-Ok-Some.line) _ (moves_on f.0 rest (bytes ++ c.args.piece.now) n f.2)
    (c.in-Ok.ensures.all f.0 (lent ++ f.1) f.3.cuts) some.1 some.2 f.4
    c.in_err-read_line-in-Ok-Some.ensures)

pub returns-clause-all : goal.returns-clause-all
returns-clause-all g c = λ bytes lent before.
    let f = c.loop-rest.invariant.read bytes lent before in
    let e : length c.loop-rest.rest.now ≡ 0 = search (rules, c.loop-rest-test.false) in
    let none = no_bytes c.loop-rest.rest.now (omega arith) in
    let all : f.0 ≡ bytes ++ c.args.piece.now = sym (append-nil f.0) ∙ ap (λ r. f.0 ++ r) (sym none) ∙ f.2 in
    (f.1, subst (λ b. HasLent b (lent ++ f.1) c.loop-rest.cutter) all f.3, f.4)
