-- The members of the documents.
use Rattle.std.specs.Prelude.{codes}
use Rattle.ninja_text.specs.Bytes.{Text}
use Rattle.scan_docs.specs.declared.member.Member.{Member}
use Rattle.scan_docs.specs.declared.member.Member.TheVariants as m

-- The key of a member. The document itself, a rule and an entry of a list have no key and get a
-- name.
unfoldable pub key : Member → Text
key m.Document = codes "document"
key m.Rule = codes "rule"
key m.Entry = codes "entry"
key m.Version = codes "version"
key m.Rules = codes "rules"
key m.PrimaryOutput = codes "primary-output"
key m.WorkDirectory = codes "work-directory"
key m.Provides = codes "provides"
key m.Requires = codes "requires"
key m.LogicalName = codes "logical-name"
key m.CompiledModulePath = codes "compiled-module-path"
key m.UniqueOnSourcePath = codes "unique-on-source-path"
key m.IsInterface = codes "is-interface"
key m.LookupMethod = codes "lookup-method"
key m.Target = codes "target"
key m.Modules = codes "modules"
key m.Bmi = codes "bmi"
key m.Name = codes "name"
key m.Visibility = codes "visibility"
key m.ModuleDir = codes "module-dir"
key m.ModuleExt = codes "module-ext"
key m.BuildDir = codes "build-dir"
key m.Scans = codes "scans"
key m.Linked = codes "linked"
key m.Private = codes "private"
key m.Dyndep = codes "dyndep"
key m.Info = codes "info"
key m.Map = codes "map"
key m.Edges = codes "edges"
key m.Restat = codes "restat"
key m.Targets = codes "targets"
