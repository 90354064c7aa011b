-- What a run reads and leaves for its task.
use Rattle.command_line.specs.Tasks.{TaskValue, one, collate, show, effect, order, project}
use Rattle.commands.specs.CollateCommand.{CollateRun}
use Rattle.commands.specs.Dyndeps.{ReadsDyndep}
use Rattle.commands.specs.Effect.{EffectOfRead}
use Rattle.commands.specs.Listings.{ReadsListing}
use Rattle.commands.specs.One.{OneRun}
use Rattle.commands.specs.Order.{OrderOfRead}
use Rattle.commands.specs.Outcomes.{Part, OutputValue, ReadsDocument, ◌>>=◌}
use Rattle.commands.specs.ProjectCommand.{ProjectRun}
use Rattle.commands.specs.Show.{ShowOfRead}

-- What a run reads and leaves for its task. The two files of `effect` are read before anything is
-- checked.
abbrev pub TaskRun : TaskValue → Part OutputValue
TaskRun (one scan dir ext) = do
  bytes ← ReadsDocument scan
  OneRun bytes dir ext
TaskRun (collate target) = do
  bytes ← ReadsDocument target
  CollateRun bytes
TaskRun (show dyndep) = do
  read ← ReadsDyndep dyndep
  ShowOfRead read
TaskRun (effect name edges dyndep) = do
  listing ← ReadsListing edges
  read ← ReadsDyndep dyndep
  EffectOfRead name listing read
TaskRun (order edges) = do
  listing ← ReadsListing edges
  OrderOfRead listing
TaskRun (project document) = do
  bytes ← ReadsDocument document
  ProjectRun bytes
