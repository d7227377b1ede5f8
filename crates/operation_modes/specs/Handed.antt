-- The words of 02 (xi) about selections, of what the two calls hand back. Assumes nothing.
use Rattle.std.specs.Prelude.{Bool, false, ◌↔◌, ◌≡◌, List, ℕ, ◌<◌, T, take, Ok}
use Rattle.as5506.specs.Tables.{Tables, letter_m, count}
use Rattle.as5506.specs.Answers.{handed}
use Rattle.as5506.specs.Refusals.{accepted}
use Rattle.as5506.specs.Modes.{modal, modes_answer}
use Rattle.as5506.specs.Combined.{IsCombination}
use Rattle.operation_modes.specs.Answer.{modes_told, SelectedInto}

-- a call for selection k of the tables m, with outputs of some lengths, hands back the M rows s
pub record Hands (m : Tables) (k : ℕ) (s : List ℕ) : Type 0 where
  pub rows : List ℕ
  pub name : List ℕ
  pub number : ℕ
  pub bytes : ℕ
  pub rows' : List ℕ
  pub name' : List ℕ
  pub call : SelectedInto m k rows name (Ok (record { rows = number; bytes = bytes })) rows' name'
  pub handed : take number rows' ≡ s

-- "None is given twice": two calls for different numbers hand back different rows
abbrev pub HandedOnce : Tables → Type 0
HandedOnce m = (i j : ℕ) → (i ≡ j → ⊥) → (s : List ℕ) → Hands m i s → Hands m j s → ⊥

-- "With no modes at all the number is 0 and nothing is cut", as the call for the count answers
abbrev pub CountedNone : Tables → Type 0
CountedNone m = T (accepted m) → count m letter_m ≡ 0 → handed modes_told (modes_answer m) ≡ Ok (record { number = 0; cut = false })

-- "else cut is said exactly if some combination of all components with modes is lacking": no call hands it back, whatever its number and its outputs
abbrev pub CutHanded : Tables → Type 0
CutHanded m =
    0 < count m letter_m → (n : ℕ) (b : Bool) → handed modes_told (modes_answer m) ≡ Ok (record { number = n; cut = b })
    → T b ↔ ((s : List ℕ) × IsCombination (modal m) s × ((k : ℕ) → Hands m k s → ⊥))

-- "the number of selections": the numbers below it, and no others, are those at which some call hands a selection back
abbrev pub HandedBelow : Tables → Type 0
HandedBelow m =
    (n : ℕ) (b : Bool) → handed modes_told (modes_answer m) ≡ Ok (record { number = n; cut = b }) → (k : ℕ) → (k < n) ↔ ((s : List ℕ) × Hands m k s)
