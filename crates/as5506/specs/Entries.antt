-- The words of 02 (vi): where the ported entry, which is by `same_bytes`, and the second, which is by `same_folded`, give one list. Assumes nothing.
use Rattle.std.specs.Prelude.{◌≡◌, List, ℕ, ◌<◌, Option}
use Rattle.as5506.specs.Lists.{same_bytes}
use Rattle.as5506.specs.Tables.{Tables, letter_n, count, name_of}
use Rattle.as5506.specs.Names.{folded, same_folded}
use Rattle.as5506.specs.Answers.{given}
use Rattle.as5506.specs.Sheet.{read_sheet}
use Rattle.as5506.specs.Listing.{Room, both_answer}
use Rattle.as5506.specs.Program.{lent, conlist, conlist_ignoring_case}

-- "all names that differ also differ folded": names of N rows
abbrev pub NamesApart : Tables → Type 0
NamesApart m = (i j : ℕ) → i < count m letter_n → j < count m letter_n → (name_of m i ≡ name_of m j → ⊥) → folded (name_of m i) ≡ folded (name_of m j) → ⊥

-- "Where all names that differ also differ folded, both entries give one list": one answer, whatever the limit and what the outputs have room for, refusals
-- included
abbrev pub OneList : Type 0
OneList =
    (m : Tables) → NamesApart m → (k links names : ℕ) (traced_room group_room : Room)
    → both_answer same_folded k links traced_room group_room names m ≡ both_answer same_bytes k links traced_room group_room names m

-- and the programs of both entries print one text for a sheet with such names
abbrev pub OneText : Type 0
OneText = (sheet : List ℕ) → ((m : Tables) → read_sheet lent sheet ≡ given m → NamesApart m) → (limit : Option ℕ) → conlist_ignoring_case limit sheet ≡ conlist limit sheet
