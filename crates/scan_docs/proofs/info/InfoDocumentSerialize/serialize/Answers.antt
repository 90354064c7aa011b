use Rattle.std.proofs.Common.{ap, subst, sym, OnOk, ◌∙◌}
use Rattle.std.proofs.lemmas.Result.{on_ok_weaker}
use Rattle.scan_docs.specs.Prelude.{All, SendsValue, ModuleValue, InfoValue, IsSoundModule, IsSoundInfo}
use Rattle.scan_docs.specs.InfoText.{IsModuleText, module_tree, info_tree}
use Rattle.scan_docs.proofs.Each.{All-grow, All-end}
use Rattle.scan_docs.proofs.Sending.{entry_sent, array_sent}
use Rattle.scan_docs.proofs.info.InfoDocumentSerialize.serialize.Goals as goal

pub send_module-requires : goal.send_module-requires
send_module-requires g c =
    let P : ModuleValue → Type 0 = IsModuleText in
    let all : All P c.as_slice-modules.result.now = rw (c.as_slice-modules.ensures.value, ap (λ v. v.modules) c.info.view_is) c.self.invariant in
    subst P (sym c.entry-item.is) (all c.loop-entry.entry-index c.entry-item.result c.loop-entry-test.true)

pub loop-entry-preserved : goal.loop-entry-preserved
loop-entry-preserved g c =
    let l = c.loop-entry in record {
      sent = λ end rest. l.invariant.sent end
          (entry_sent module_tree c.as_slice-modules.result.now l.entry-index c.entry-item.result _ _ end c.loop-entry-test.true c.entry-item.is
          c.in_ok-send_module.ensures.sent rest);
      sound = All-grow IsSoundModule c.as_slice-modules.result.now l.entry-index c.entry-item.result c.loop-entry-test.true c.entry-item.is
          c.in_ok-send_module.ensures.sound l.invariant.sound;
    }

pub returns : goal.returns
unfolding info_tree
returns g c =
    let Sent : InfoValue →
    Type 0 = λ v. SendsValue (info_tree v) (g.S.Serializer.written c.args.out.now) (g.S.Serializer.written c.end_map.new.self) × IsSoundInfo v in
    let l = c.loop-entry in
    let modules = array_sent module_tree c.as_slice-modules.result.now l.entry-index _ _ _ _ c.loop-entry-test.false c.in_ok-begin_seq.ensures l.invariant.sent
    c.in_ok-end_seq.ensures in
    let target = c.in_ok-send_text.ensures in
    subst (λ v. OnOk c.end_map.result (Sent v)) (c.info.view_is ∙ c.self.view_is)
    (rw (← c.as_slice-modules.ensures.value, ← c.text.ensures.text)
    (on_ok_weaker c.end_map.result
    (λ end. (
      (
        _,
        c.in_ok-begin_map.ensures,
        (
          _,
          _,
          c.in_ok-key.ensures,
          modules,
          (
            target.0,
            _,
            target.1,
            target.2,
            (_, _, c.in_ok-key-2.ensures, c.in_ok-u64.ensures, end),
          ),
        ),
      ),
      record {
        target = record { accepted = rw c.text.ensures.text c.text.ensures.accepted; utf8 = c.text.utf8 };
        modules = All-end IsSoundModule c.as_slice-modules.result.now l.entry-index c.loop-entry-test.false l.invariant.sound;
      },
    )) c.end_map.ensures))
