-- The column that a value of the code stands for. Assumes nothing.
use Rattle.as5506.specs.Columns.{Meaning as TheMeaning, name, row_in, holder, below, anything, Column as TheColumn, needed, optional, long}
use Rattle.tables.specs.declared.fields.Meaning.{Meaning}
use Rattle.tables.specs.declared.fields.Meaning.TheVariants.{Name, Row, Holder, Below, Anything}
use Rattle.tables.specs.declared.fields.Column.{Column}
use Rattle.tables.specs.declared.fields.Column.TheVariants.{Needed, Optional, Long}
use Rattle.tables.specs.Letter.{letter_of}

abbrev pub meaning_of : Meaning → TheMeaning
meaning_of Name = name
meaning_of (Row l) = row_in (letter_of l)
meaning_of Holder = holder
meaning_of (Below b) = below b
meaning_of Anything = anything

-- a sheet's line has six bytes for a number, and twenty for an array index
abbrev pub column_of : Column → TheColumn
column_of (Needed w) = needed 6 (meaning_of w)
column_of (Optional w) = optional 6 (meaning_of w)
column_of Long = long 20
