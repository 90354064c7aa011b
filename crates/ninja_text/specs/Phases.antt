-- What the phase of a cutter says about its buffer and the current line.
use Rattle.std.specs.Prelude.{◌≡◌, ◌<◌, Bool, true, false, [], length}
use Rattle.ninja_text.specs.Bytes.{Bytes}
use Rattle.ninja_text.specs.Lines.{line_limit}
use Rattle.ninja_text.specs.Scanning.{scan_from}
use Rattle.ninja_text.specs.declared.cutter.Phase.{Phase}
use Rattle.ninja_text.specs.declared.cutter.Phase.TheVariants.{Gathering, Waiting, Lent, Failed}
use Rattle.ninja_text.specs.declared.cutter.ScanState.TheVariants.{Start}
use Rattle.ninja_text.specs.declared.cutter.Scanned.TheVariants.{End, Open}

-- the bytes of the current line; if the line in the buffer was returned, there are none
abbrev pub bytes_in : Phase → Bytes → Bytes
bytes_in (Gathering state) bytes = bytes
bytes_in (Waiting text_len) bytes = bytes
bytes_in Lent bytes = []
bytes_in Failed bytes = bytes

abbrev pub waits_in : Phase → Bool
waits_in (Gathering state) = false
waits_in (Waiting text_len) = true
waits_in Lent = false
waits_in Failed = false

abbrev pub failed_in : Phase → Bool
failed_in (Gathering state) = false
failed_in (Waiting text_len) = false
failed_in Lent = false
failed_in Failed = true

-- The buffer fits the phase. While a line is gathered, the buffer is not full, and its scan is in
-- this state. If a line waits, the buffer is this line, and its scan has found this end.
abbrev pub PhaseFits : Phase → Bytes → Type 0
PhaseFits (Gathering state) bytes =
    (length bytes < line_limit) × (scan_from 0 Start bytes ≡ Open state)
PhaseFits (Waiting text_len) bytes = scan_from 0 Start bytes ≡ End text_len (length bytes)
PhaseFits Lent bytes = Unit {0}
PhaseFits Failed bytes = Unit {0}
