-- The number of six bytes that are a field of a sheet, and such numbers one behind the other.
use Rattle.std.proofs.Common.{◌≡◌, ℕ, List, [], ◌∷◌, ◌++◌, Option, ◌+◌, ◌<◌, length, take, slice_index_or, slice_set, refl, sym, ap, subst, ◌∙◌, take_all, arith}
use Rattle.std.specs.Io.KnownBytes.{Consumes}
use Rattle.std.proofs.lemmas.List.{take_more_set}
use Rattle.std.proofs.lemmas.List.Edits.{sets}
use Rattle.as5506.specs.Fields.{field_of, number_of, field_numbers}
use Rattle.fields.specs.Fields.{columns_of}
use Rattle.fields.specs.declared.Mark.TheVariants.{Needed}
use Rattle.stdio.specs.{Filled}
use Rattle.cases.specs.{TakenNumber, TakenNumbers}
use mathlib.Core.Logic.{inl}

-- it is what stands in a table of one place after they were put there
pub taken_number : (a b : Option (List ℕ)) (k : ℕ) (s t : List ℕ) → k ≡ 6 → length s ≡ 6 → Filled a b s k → t ≡ sets (0 ∷ []) 0 (field_numbers (columns_of (Needed ∷ [])) s)
    → TakenNumber a b (slice_index_or t 0 0)
unfolding field_numbers
taken_number a b k s t e six read put =
    let whole : take 6 s ≡ s = take_all 6 s (omega (arith, six)) in
    inl (s, six, subst (Consumes a b) (ap (λ (n : ℕ). take n s) e ∙ whole) read.1, ap (λ (l : List ℕ). slice_index_or l 0 0) put ∙ ap (λ (l : List ℕ). number_of (field_of l)) whole)

one-more : (a b c : Option (List ℕ)) (vs : List ℕ) (v : ℕ) → TakenNumbers a b vs → TakenNumber b c v → TakenNumbers a c (vs ++ (v ∷ []))
one-more a b c [] v before next = (c, subst (λ (o : Option (List ℕ)). TakenNumber o c v) (sym before) next, refl)
one-more a b c (w ∷ vs) v before next = (before.0, before.1, one-more before.0 b c vs v before.2 next)

-- the turn of a loop: one number more stands at the place behind them
pub numbers-on : (a b c : Option (List ℕ)) (out : List ℕ) (i v : ℕ) → i < length out → TakenNumbers a b (take i out) → TakenNumber b c v
    → TakenNumbers a c (take (i + 1) (slice_set out i v))
numbers-on a b c out i v within before next = subst (TakenNumbers a c) (sym (take_more_set out i v within)) (one-more a b c (take i out) v before next)
