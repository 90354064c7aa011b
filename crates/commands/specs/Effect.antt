-- What the command `effect` prints.
use Rattle.std.specs.Prelude.{◌≡◌, List, Ok, Err}
use Rattle.ninja_text.specs.Bytes.{Text, PathText}
use Rattle.ninja_text.specs.Paths.{path_of}
use Rattle.dyndep_file.specs.StatementValue.{StatementValue}
use Rattle.build_effect.specs.EdgeValue.{EdgeValue}
use Rattle.build_effect.specs.Effect.{OnlyEffect}
use Rattle.build_effect.specs.ListingWriting.{listing_text_or_fault}
use Rattle.collate_core.specs.Rehearsal.{IsWithoutEffect}
use Rattle.commands.specs.Dyndeps.{DyndepRead, IsDyndepRead, DyndepOf}
use Rattle.commands.specs.EdgeFaults.{name_error, listing_write_error, effect_error}
use Rattle.commands.specs.Folder.{whole}
use Rattle.commands.specs.Listings.{ListingRead, IsListingRead, ListingOf}
use Rattle.commands.specs.Outcomes.{Part, OutputValue, Comes, Returns, Prints, ◌>>=◌}

-- the path of a name
abbrev pub NameOf : Text → Part PathText
NameOf name =
    Returns (λ path. path_of name ≡ Ok path) (λ fault. path_of name ≡ Err fault)
    name_error

-- the edges after the effect of the dyndep file of that name
abbrev pub EffectOf : List EdgeValue → PathText → List StatementValue → Part (List EdgeValue)
EffectOf edges name statements =
    Returns (OnlyEffect edges name statements) (IsWithoutEffect edges name statements) effect_error

-- the edge list of these edges, or the first of them whose line is too long
abbrev pub ListingTextOf : List EdgeValue → Part Text
ListingTextOf edges =
    Returns (λ text. listing_text_or_fault edges ≡ Ok text)
    (λ fault. listing_text_or_fault edges ≡ Err fault)
    (listing_write_error edges)

-- What a run prints for a name, and for an edge list and the dyndep file of that name that were
-- read.
abbrev pub EffectOfRead : Text → ListingRead → DyndepRead → Part OutputValue
EffectOfRead name listing dyndep = do
  path ← NameOf name
  old ← ListingOf listing
  statements ← DyndepOf dyndep
  new ← EffectOf old path statements
  text ← ListingTextOf new
  Prints text

-- What a run prints for a name, and for these bytes of an edge list and of the dyndep file of
-- that name.
abbrev pub EffectRun : Text → Text → Text → Part OutputValue
EffectRun name edges dyndep = do
  listing ← Comes (IsListingRead (whole edges))
  read ← Comes (IsDyndepRead (whole dyndep))
  EffectOfRead name listing read
