-- Names for bytes and for lists of bytes. A byte is a number below 256. The names are for readers:
-- to the prover they are all numbers and lists of numbers.
use Rattle.std.specs.Prelude.{◌≡◌, ℕ, List}
use Rattle.std.specs.Ordering.{nat_cmp}
use Rattle.std.specs.Cmp.Lexicographic.{slice_cmp}
use Rattle.std.specs.declared.cmp.Ordering.TheVariants.{Less}

abbrev pub Byte : Type 0
Byte = ℕ

-- arbitrary bytes, such as the contents of a file or a piece of them
abbrev pub Bytes : Type 0
Bytes = List ℕ

-- text that is read or written: a document, a line, a token or a message
abbrev pub Text : Type 0
Text = List ℕ

-- a path, canonical or not
abbrev pub PathText : Type 0
PathText = List ℕ

-- a component of a path: the bytes between two slashes
abbrev pub Component : Type 0
Component = List ℕ

-- the name of a module, a target, a rule or a variable
abbrev pub Name : Type 0
Name = List ℕ

-- the first name precedes the second in byte order
abbrev pub Precedes : Name → Name → Type 0
Precedes a b = slice_cmp nat_cmp a b ≡ Less

-- ---- the ASCII bytes that definitions mention

abbrev pub nul : Byte
nul = 0

abbrev pub line_feed : Byte
line_feed = 10

abbrev pub carriage_return : Byte
carriage_return = 13

abbrev pub space : Byte
space = 32

abbrev pub double_quote : Byte
double_quote = 34

abbrev pub hash : Byte
hash = 35

abbrev pub dollar : Byte
dollar = 36

abbrev pub single_quote : Byte
single_quote = 39

abbrev pub hyphen : Byte
hyphen = 45

abbrev pub dot : Byte
dot = 46

abbrev pub slash : Byte
slash = 47

abbrev pub digit_zero : Byte
digit_zero = 48

abbrev pub digit_one : Byte
digit_one = 49

abbrev pub digit_nine : Byte
digit_nine = 57

abbrev pub colon : Byte
colon = 58

abbrev pub equals_sign : Byte
equals_sign = 61

abbrev pub question_mark : Byte
question_mark = 63

abbrev pub at_sign : Byte
at_sign = 64

abbrev pub capital_a : Byte
capital_a = 65

abbrev pub capital_z : Byte
capital_z = 90

abbrev pub backslash : Byte
backslash = 92

abbrev pub underscore : Byte
underscore = 95

abbrev pub small_a : Byte
small_a = 97

abbrev pub small_z : Byte
small_z = 122

abbrev pub opening_brace : Byte
opening_brace = 123

abbrev pub vertical_bar : Byte
vertical_bar = 124

abbrev pub delete : Byte
delete = 127
