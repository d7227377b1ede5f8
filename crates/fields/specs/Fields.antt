-- What the contracts of this crate say beside the definition's fields (as5506, Fields): how the code holds a field and its columns. Assumes nothing.
use Rattle.std.specs.Prelude.{Bool, true, false, ◌&&◌, List, map, ℕ, ◌*◌, ◌<◌, ltb, Option}
use Rattle.std.specs.Bool.{then_some}
use Rattle.as5506.specs.Lists.{all_of}
use Rattle.as5506.specs.Tables.{two_to32}
use Rattle.as5506.specs.Columns.{Column, needed, optional, long, anything}
use Rattle.as5506.specs.Fields.{digit, decimal_from, Field, value, dash, bad}
use Rattle.fields.specs.declared.Field.{Field as Read}
use Rattle.fields.specs.declared.Field.TheVariants.{Value, Dash, Bad}
use Rattle.fields.specs.declared.Mark.{Mark}
use Rattle.fields.specs.declared.Mark.TheVariants.{Needed, Optional, Long}

-- the definition's field that the code's field stands for
abbrev pub shown : Read → Field
shown (Value v) = value v
shown Dash = dash
shown Bad = bad

-- a number of 32 bits, or none
abbrev pub Short : Field → Type 0
Short (value v) = v < two_to32
Short dash = Unit {0}
Short bad = Unit {0}

-- the number of 64 bits at most that digits continue v to
abbrev pub spelt : ℕ → List ℕ → Option ℕ
spelt v s = then_some (all_of digit s && ltb (decimal_from v s) (two_to32 * two_to32)) (decimal_from v s)

-- a column of a mark, whatever it means
abbrev pub column : Mark → Column
column Needed = needed 6 anything
column Optional = optional 6 anything
column Long = long 20

abbrev pub columns_of : List Mark → List Column
columns_of marks = map column marks

-- whether a field of a mark is held in one number
abbrev pub is_short : Mark → Bool
is_short Needed = true
is_short Optional = true
is_short Long = false

-- a column without what it means: of that the form of a field tells nothing
abbrev pub plain : Column → Column
plain (needed b w) = needed b anything
plain (optional b w) = optional b anything
plain (long b) = long b
