use Rattle.std.proofs.Common.{sym}
use Rattle.scan_docs.proofs.Exact.{target_parts}
use Rattle.scan_docs.proofs.target_document.read_spec.Goals as goal

pub returns : goal.returns
returns c =
    let setting = c.in_ok-setting.ensures.1 in
    let dyndep = c.in_ok-dyndep.ensures in
    let files = c.in_ok-info.ensures in (
      rw (
        target_parts,
        c.in_ok-read_version.ensures.0,
        c.in_ok-target.ensures.0,
        c.in_ok-setting.ensures.0,
        c.in_ok-scans.ensures.0,
        c.in_ok-linked.ensures.0,
        c.in_ok-kept.ensures.0,
        dyndep.0,
      ) files.0,
      record {
        target = c.in_ok-target.ensures.1;
        module_dir = setting.0;
        module_ext = setting.1;
        directory = setting.2;
        scans = sym c.in_ok-scans.ensures.1;
        linked = sym c.in_ok-linked.ensures.1;
        kept = c.in_ok-kept.ensures.1;
        dyndep = dyndep.1.0;
        dyndep_path = dyndep.1.1;
        info = files.1.0;
        form = files.1.1;
        edges = files.1.2;
        restat = files.1.3;
      },
    )
