-- The matches whose names find room, and what composing leaves where all do. Assumes nothing.
use mathlib.Core.Bool.{Bool}
use mathlib.Core.Path.{◌≡◌, refl, ap, ◌∙◌}
use mathlib.Core.List.{List, [], ◌∷◌}
use Prim.Native.Nat.{ℕ, ◌+◌, ◌-◌, ◌≤◌, ◌<◌}
use native.Mathlib.Omega.{arith}
use borrow.Author.Tests.{le-leb, lt-leb}
use lib.ListN.{length, length-append}
use lib.Seq.{sets}
use Rattle.std.specs.Prelude.{Option}
use Rattle.as5506.specs.Lists.{each}
use Rattle.as5506.specs.Tables.{Tables}
use Rattle.as5506.specs.Listing.{row_names}
use Rattle.as5506.specs.Layout.{group_block}
use Rattle.lent.specs.Append.{together}
use Rattle.lent.specs.Printed.{Printed}
use Rattle.lent.proofs.Pieces.{together-append, printed-by}
use Rattle.group_names.specs.Pairs.{Pair, rows_of_pairs}
use Rattle.group_names.specs.Pieces.{pair_pieces}
use Rattle.group_names.specs.Compose.{named_by, named, Composed}
use Rattle.group_names.proofs.Names.{pairs-names}

module _ (m : Tables) where
  -- how many bytes the names of a match take
  abbrev pub bytes_of : Pair → ℕ
  bytes_of p = length (together (pair_pieces m p))

  pub named-fits : (room : ℕ) (p : Pair) (ps : List Pair) → bytes_of p ≤ room → named m room (p ∷ ps) ≡ p ∷ named m (room - bytes_of p) ps
  unfolding named named_by
  named-fits room p ps h = ap (λ (b : Bool). named_by b p (named m (room - bytes_of p) ps)) (le-leb (bytes_of p) room h)

  pub named-full : (room : ℕ) (p : Pair) (ps : List Pair) → room < bytes_of p → named m room (p ∷ ps) ≡ []
  unfolding named named_by
  named-full room p ps h = ap (λ (b : Bool). named_by b p (named m (room - bytes_of p) ps)) (lt-leb (bytes_of p) room h)

  -- all of them find room
  named-all : (room : ℕ) (ps : List Pair) → length (together (each (pair_pieces m) ps)) ≤ room → named m room ps ≡ ps
  unfolding named
  named-all room [] h = refl
  named-all room (p ∷ ps) h =
      let rest : List (List ℕ) = each (pair_pieces m) ps in
      let k : length (together (each (pair_pieces m) (p ∷ ps))) ≡ bytes_of p + length (together rest)
      = ap length (together-append (pair_pieces m p) rest) ∙ length-append (together (pair_pieces m p)) (together rest) in
      named-fits room p ps (omega (arith, h, k)) ∙ ap (λ (qs : List Pair). p ∷ qs) (named-all (room - bytes_of p) ps (omega (arith, h, k)))

-- ---- for callers

module _ (m : Tables) (ps : List Pair) (rows names : List ℕ) (z : Option ℕ) (rows' names' : List ℕ) (w : Composed m ps rows names z rows' names') where
  -- the names lie one behind the other, if there is room for all
  pub names-printed : Printed (each row_names (rows_of_pairs m ps)) names z names'
  names-printed = printed-by (each (pair_pieces m) ps) names names' z (each row_names (rows_of_pairs m ps)) (pairs-names m ps) w.in-names

  -- then every match is its row
  pub all-rows : length (each row_names (rows_of_pairs m ps)) ≤ length names → rows' ≡ sets rows 0 (each group_block (rows_of_pairs m ps))
  all-rows h = w.in_rows ∙ ap (λ (qs : List Pair). sets rows 0 (each group_block (rows_of_pairs m qs))) (named-all m (length names) ps (rw (pairs-names m ps) h))
