-- The rows of chains behind a path: where a chain ends, and one step on. Assumes nothing.
use mathlib.Core.Path.{◌≡◌, refl, sym, ap, ap₂, ◌∙◌}
use mathlib.Core.List.{List, [], ◌∷◌, ◌++◌, map, append_assoc, append-nil}
use Prim.Native.Nat.{ℕ, ◌-◌, ◌≤◌}
use native.Mathlib.Omega.{arith}
use lib.ListN.{length}
use lib.Seq.{sets}
use Rattle.std.specs.Prelude.{Option, Some, None}
use Rattle.as5506.specs.Lists.{each, padded, zeros}
use Rattle.as5506.specs.Tables.{Tables, source, destination, x_name, x_kind}
use Rattle.as5506.specs.Tables.{Side as TheSide}
use Rattle.as5506.specs.Names.{Comparison}
use Rattle.as5506.specs.Tracing.{Step as TheStep, Chain, Traced, stop, push, chains, append_new}
use Rattle.as5506.specs.Layout.{traced_block, path_places, row_numbers}
use Rattle.as5506.proofs.Laws.{each_append, padded-length, each-one}
use Rattle.lent.proofs.Sets.{sets-append, sets-whole}
use Rattle.columns.specs.declared.Side.{Side}
use Rattle.columns.specs.declared.Side.TheVariants.{Source, Destination}
use Rattle.columns.specs.Side.{side_of}
use Rattle.child_links.specs.Trees.{same_in}
use Rattle.trace.specs.declared.step.Step.{Step}
use Rattle.trace.specs.declared.step.Steps.{Steps}
use Rattle.trace.specs.Steps.{tables_in, side_in, steps_behind, after_step, Within, chains_from, chains_over, Begins}
use Rattle.trace.specs.Ends.{the_end, behind, row_along, rows_at_end, rows_behind}
use Rattle.output.specs.declared.blocks.Blocks.{Blocks}
use Rattle.output.specs.Blocks.{Wrote}
use Rattle.output.proofs.Writing.{Writing, wrote_as, writing_start, writing_turn, writing_full, writing_end}

-- ---- one row

-- eight numbers and the places behind them, as they are written into zeros, are the row's block
pub row_is : (m : Tables) (x : ℕ) (s d : Chain) (path : List ℕ) (kind name len : ℕ) (places numbers : List ℕ)
    → path ≡ append_new s.path d.path → kind ≡ x_kind m x → name ≡ x_name m x → len ≡ length path → len ≤ path_places → places ≡ padded path_places path
    → numbers ≡ sets (sets (zeros row_numbers) 0 (x ∷ kind ∷ s.comp ∷ d.comp ∷ name ∷ s.feat ∷ d.feat ∷ len ∷ [])) 8 places
    → numbers ≡ traced_block m (row_along m x s d)
unfolding traced_block row_along
row_is m x s d path kind name len places numbers j k n l h p e =
    let head = x ∷ kind ∷ s.comp ∷ d.comp ∷ name ∷ s.feat ∷ d.feat ∷ len ∷ [] in
    e ∙ sym (sets-append head places (zeros row_numbers) 0)
    ∙ sets-whole (head ++ places) (zeros row_numbers) (omega (arith, ap length p, padded-length path_places path (omega (arith, l, h))))
    ∙ rw (k, n, l, p, j) refl

-- ---- chains behind a path

module _ (same : Comparison) (m : Tables) (s : TheSide) (x k : ℕ) (o : Chain) where
  rows_append : (p : List ℕ) (a b : List Chain) → rows_behind same m s x k o p (a ++ b) ≡ rows_behind same m s x k o p a ++ rows_behind same m s x k o p b
  unfolding rows_behind
  rows_append p a b = each_append (λ e. rows_at_end same m s x k o (behind p e)) a b

  rows-along : (p : List ℕ) (i : ℕ) (l : List Chain) → rows_behind same m s x k o p (map (push i) l) ≡ rows_behind same m s x k o (p ++ (i ∷ [])) l
  unfolding rows_behind
  rows-along p i [] = refl
  rows-along p i (e ∷ l) =
      ap₂ ◌++◌ (ap (λ (q : List ℕ). rows_at_end same m s x k o (the_end e.comp e.feat q)) (sym (append_assoc p (i ∷ []) e.path))) (rows-along p i l)

-- a destination chain that has ended: one row
rows_last : (same : Comparison) (m : Tables) (x k : ℕ) (o : Chain) (p : List ℕ) (c f : ℕ) → rows_behind same m destination x k o p (stop c f ∷ []) ≡ row_along m x o (the_end c f p) ∷ []
unfolding rows_behind rows_at_end
rows_last same m x k o p c f = rw (append-nil p)

-- a source chain that has ended: the rows of the destination's chains
rows-over : (same : Comparison) (m : Tables) (x k : ℕ) (o : Chain) (p : List ℕ) (c f : ℕ)
    → rows_behind same m source x k o p (stop c f ∷ []) ≡ rows_behind same m destination x k (the_end c f p) o.path (chains same m destination k o.comp o.feat)
unfolding rows_behind rows_at_end
rows-over same m x k o p c f =
    append-nil (map (λ d. row_along m x (the_end c f (p ++ [])) (behind o.path d)) (chains same m destination k o.comp o.feat))
    ∙ ap (λ (q : List ℕ). map (λ d. row_along m x (the_end c f q) (behind o.path d)) (chains same m destination k o.comp o.feat)) (append-nil p)
    ∙ sym (each-one (λ d. row_along m x (the_end c f p) (behind o.path d)) (chains same m destination k o.comp o.feat))

-- ---- where the tracer's chain ends

-- of the destination it asks for no other chain's steps
rows-any : (same : Comparison) (m : Tables) (x k h : ℕ) (o : Chain) (p : List ℕ) (es : List Chain) → rows_behind same m destination x k o p es ≡ rows_behind same m destination x h o p es
unfolding rows_behind rows_at_end
rows-any same m x k h o p es = refl

module _ (same : Comparison) (m : Tables) (x k : ℕ) (o : Chain) (p : List ℕ) (c f left : ℕ) (side : Side) (e : chains same m (side_of side) left c f ≡ stop c f ∷ [])
    {out out' : Blocks row_numbers} {q : Option (Unit {0})} where
  pub ends_destination : side ≡ Destination → Wrote (traced_block m) (row_along m x o (the_end c f p) ∷ []) out q out'
      → Wrote (traced_block m) (rows_behind same m (side_of side) x k o p (chains same m (side_of side) left c f)) out q out'
  ends_destination h v = wrote_as v (rw (e, h) (rows_last same m x k o p c f))

  pub ends_source : side ≡ Source → Wrote (traced_block m) (rows_behind same m destination x left (the_end c f p) o.path (chains same m destination k o.comp o.feat)) out q out'
      → Wrote (traced_block m) (rows_behind same m (side_of side) x k o p (chains same m (side_of side) left c f)) out q out'
  ends_source h v = wrote_as v (rw (e, h) (rows-over same m x k o p c f ∙ rows-any same m x k left (the_end c f p) o.path (chains same m destination k o.comp o.feat)))

-- ---- the tracer's loop: `todo` are the steps that are left

module _ (q : Steps) (x k : ℕ) (o : Chain) (p : List ℕ) (left : ℕ) where
  abbrev rows : List ℕ → List Chain → List Traced
  rows r es = rows_behind (same_in q.tree.now) (tables_in q) (side_in q) x k o r es

  -- the chains that go on behind a step
  abbrev on : Step → List Chain
  on st = chains (same_in q.tree.now) (tables_in q) (side_in q) (left - 1) st.child st.feature

  abbrev rows_left : List TheStep → List Traced
  rows_left todo = rows p (each (chains_over q (left - 1)) todo)

  -- of the rows of the chains behind p, those of the steps that an answer stands for are still to be written
  pub record Going (out₀ out : Blocks row_numbers) (next : Option Step) : Type 0 where
    pub writing : Writing (traced_block (tables_in q)) (rows p (chains_from q left)) out₀ out (rows_left (after_step q next))
    pub within : Within q next

  pub going_start : {out₀ : Blocks row_numbers} {st : Step} → Within q (Some st) → Begins q left (Some st) → Going out₀ out₀ (Some st)
  going_start v b = record { within = v; writing = writing_start (ap (rows p) b.1) }

  module _ {out₀ out : Blocks row_numbers} {next : Option Step} (g : Going out₀ out next) where
    pub going_end : next ≡ None → Wrote (traced_block (tables_in q)) (rows p (chains_from q left)) out₀ (Some tt) out
    unfolding rows_behind
    going_end e = writing_end g.writing (ap (λ (r : Option Step). rows_left (after_step q r)) e)

    module _ {st : Step} (e : next ≡ Some st) {p' : List ℕ} (l : p' ≡ p ++ (st.row ∷ [])) {r : Option (Unit {0})} {out' : Blocks row_numbers}
        (v : Wrote (traced_block (tables_in q)) (rows p' (on st)) out r out') where
      split : rows_left (after_step q next) ≡ rows p' (on st) ++ rows_left (steps_behind q st)
      split =
          ap (λ (r : Option Step). rows_left (after_step q r)) e
          ∙ rows_append (same_in q.tree.now) (tables_in q) (side_in q) x k o p (map (push st.row) (on st)) (each (chains_over q (left - 1)) (steps_behind q st))
          ∙ ap (λ (r : List Traced). r ++ rows_left (steps_behind q st))
          (rows-along (same_in q.tree.now) (tables_in q) (side_in q) x k o p st.row (on st) ∙ ap (λ (r : List ℕ). rows r (on st)) (sym l))

      pub going_on : r ≡ Some tt → {next' : Option Step} → Within q next' → steps_behind q st ≡ after_step q next' → Going out₀ out' next'
      going_on h u a = record { within = u; writing = rw (← a) (writing_turn g.writing v _ split h) }

      pub going_full : r ≡ None → {z : Option (Unit {0})} → z ≡ None → Wrote (traced_block (tables_in q)) (rows p (chains_from q left)) out₀ z out'
      going_full = writing_full g.writing v _ split

-- ---- the tracer ends: the source's steps, then the destination's

abbrev pub phase : Side → ℕ
phase Source = 1
phase Destination = 0
