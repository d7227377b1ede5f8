-- The limit on steps: the rows under a limit and under a larger one are equal exactly where no chain that the listing follows has a further step.
use mathlib.Core.Bool.{Bool, true, false, not}
use mathlib.Core.Logic.{◌↔◌, ◌⊎◌, inl, inr}
use mathlib.Core.Path.{◌≡◌, refl, sym, ap, ap₂, ◌∙◌, subst}
use mathlib.Core.List.{List, [], ◌∷◌, ◌++◌, map, append_assoc, append-nil}
use Prim.Native.Nat.{ℕ, zero, suc, ◌+◌, ◌*◌, ◌≤◌, ◌<◌}
use native.Mathlib.Nat.{le_refl, mul_assoc, mul_comm, mul-le-mul, mul-le-mul_left, not-suc-le-zero, le_of_suc-le-suc, one-mul, suc_inj}
use native.Mathlib.Omega.{arith}
use lib.Dec.{T, T_not as T-clash, eqb, eqb→eq}
use lib.ListN.{length}
use borrow.Author.Tests.{ne_eqb}
use Rattle.as5506.specs.Lists.{up_to, keep, each, has, total}
use Rattle.as5506.proofs.Laws.{All, all_map, all-of, all-zip, all_append, all_keep, all-passing, all-kept, all-each, each_all, all-mapped, mapped-all, each_same, total-same, total_mono, total-tight, total-times, total-times-right, total-each, total-map, total-append, up_to-below, times-tight, and_left, and_right, in_all}
use Rattle.as5506.specs.Tables.{Tables, present, rows_naming, Side, source, destination, other, name_of, c_count, c_parent, children_of, x_count, x_owner, x_sub, connections_of}
use Rattle.as5506.specs.Names.{Comparison}
use Rattle.as5506.specs.Tracing.{found_children, Step, Chain, Start, child, owner, Pair, stop, push, grow, chains_by, chains, steps, steps_over, step_to, leads, shape, Shape, faulty, across, upward, downward, neither, named, one_to_one, pairs_by, pairs, zip_as, all_as, pairs_across, pairs_edge, pair_across, pair_up, pair_down, append_new, row_of, reach, pair_rows, rows_at, traced, shown, rows, unlimited}
use Rattle.as5506.proofs.Children.{child-row, found-kept}
use Rattle.as5506.proofs.Whole.{Sound, StartWhole, PairWhole, NoFurther}

-- ---- the weight of a path: 2 to the number of its connections

abbrev weight : List ℕ → ℕ
weight [] = 1
weight (x ∷ xs) = 2 * weight xs

weight-append : (p q : List ℕ) → weight (p ++ q) ≡ weight p * weight q
weight-append [] q = sym (one-mul (weight q))
weight-append (x ∷ xs) q = ap (λ (n : ℕ). 2 * n) (weight-append xs q) ∙ sym (mul_assoc 2 (weight xs) (weight q))

abbrev end_weight : Chain → ℕ
end_weight e = weight e.path

-- ---- chains, over any steps

grow-mono : (e : Chain) (g h : Step → List Chain) (l : List Step) → All (λ st. total end_weight (g st) ≤ total end_weight (h st)) l → total end_weight (grow e g l) ≤ total end_weight (grow e h l)
grow-mono e g h [] t = le_refl _
grow-mono e g h (st ∷ sts) t = rw (total-each end_weight g (st ∷ sts), total-each end_weight h (st ∷ sts)) (total_mono _ _ (st ∷ sts) t)

grow-tight : (e : Chain) (g h : Step → List Chain) (l : List Step) → All (λ st. total end_weight (g st) ≤ total end_weight (h st)) l → total end_weight (grow e g l) ≡ total end_weight (grow e h l)
    → All (λ st. total end_weight (g st) ≡ total end_weight (h st)) l
grow-tight e g h [] t p = tt
grow-tight e g h (st ∷ sts) t p = total-tight _ _ (st ∷ sts) t (sym (total-each end_weight g (st ∷ sts)) ∙ p ∙ total-each end_weight h (st ∷ sts))

grow-same : (e : Chain) (g h : Step → List Chain) (l : List Step) → All (λ st. g st ≡ h st) l → grow e g l ≡ grow e h l
grow-same e g h [] t = refl
grow-same e g h (st ∷ sts) t = each_same g h (st ∷ sts) t

grow-pos : (c f : ℕ) (g : Step → List Chain) (l : List Step) → ((st : Step) → 0 < total end_weight (g st)) → 0 < total end_weight (grow (stop c f) g l)
grow-pos c f g [] t = le_refl 1
grow-pos c f g (st ∷ sts) t = omega (arith, total-append end_weight (g st) (each g sts), t st)

module _ (next : ℕ → ℕ → List Step) where
  -- the chains that begin with a step
  abbrev pub branch : ℕ → Step → List Chain
  branch k st = map (push st.conn) (chains_by next k st.child st.feat)

  -- what holds where no step exists, and of each chain behind each step, holds of the chains of one step more
  pub all-grown : (P : Chain → Type 0) (Q : Step → Chain → Type 0) (k c f : ℕ) → (next c f ≡ [] → P (stop c f)) → ((st : Step) (e : Chain) → Q st e → P (push st.conn e))
      → All (λ st. All (Q st) (chains_by next k st.child st.feat)) (next c f) → All P (chains_by next (suc k) c f)
  unfolding chains_by
  all-grown P Q k c f none more t = go (next c f) none t
    where
      go : (l : List Step) → (l ≡ [] → P (stop c f)) → All (λ st. All (Q st) (chains_by next k st.child st.feat)) l → All P (grow (stop c f) (branch k) l)
      go [] h t = (h refl, tt)
      go (st ∷ sts) h t =
          all-each (λ st. All (Q st) (chains_by next k st.child st.feat)) P (branch k) (λ st q. all-mapped (Q st) P (push st.conn) (more st) (chains_by next k st.child st.feat) q) (st ∷ sts) t

  abbrev heft : ℕ → ℕ → ℕ → ℕ
  heft k c f = total end_weight (chains_by next k c f)

  branch-heft : (k : ℕ) (st : Step) → total end_weight (branch k st) ≡ 2 * heft k st.child st.feat
  branch-heft k st = total-map end_weight (push st.conn) (chains_by next k st.child st.feat) ∙ total-times 2 end_weight (chains_by next k st.child st.feat)

  heft-pos : (k c f : ℕ) → 0 < heft k c f
  unfolding chains_by
  heft-pos zero c f = le_refl 1
  heft-pos (suc k) c f = grow-pos c f (branch k) (next c f) (λ st. omega (arith, branch-heft k st, heft-pos k st.child st.feat))

  branch-mono : (a b : ℕ) (st : Step) → heft a st.child st.feat ≤ heft b st.child st.feat → total end_weight (branch a st) ≤ total end_weight (branch b st)
  branch-mono a b st h = omega (arith, branch-heft a st, branch-heft b st)

  heft-mono : (a b : ℕ) → a ≤ b → (c f : ℕ) → heft a c f ≤ heft b c f
  unfolding chains_by
  heft-mono zero b h c f = heft-pos b c f
  heft-mono (suc a) zero h c f = absurd (not-suc-le-zero h)
  heft-mono (suc a) (suc b) h c f =
      grow-mono (stop c f) (branch a) (branch b) (next c f)
      (all-of _ (λ st. branch-mono a b st (heft-mono a b (le_of_suc-le-suc h) st.child st.feat)) (next c f))

  -- no chain from (c, f) has a step after its k-th
  abbrev pub Ends : ℕ → ℕ → ℕ → Type 0
  Ends zero c f = next c f ≡ []
  Ends (suc k) c f = All (λ st. Ends k st.child st.feat) (next c f)

  no_step : (b c f : ℕ) (l : List Step) → 1 ≡ total end_weight (grow (stop c f) (branch b) l) → l ≡ []
  no_step b c f [] e = refl
  no_step b c f (st ∷ sts) e =
      absurd (omega (arith, e, total-append end_weight (branch b st) (each (branch b) sts), branch-heft b st, heft-pos b st.child st.feat))

  tight : (a b : ℕ) → a < b → (c f : ℕ) → heft a c f ≡ heft b c f → Ends a c f
  unfolding chains_by
  tight a zero h c f e = absurd (not-suc-le-zero h)
  tight zero (suc b) h c f e = no_step b c f (next c f) e
  tight (suc a) (suc b) h c f e =
      all_map _ _ (λ st p. tight a b (le_of_suc-le-suc h) st.child st.feat (omega (arith, p, branch-heft a st, branch-heft b st))) (next c f)
      (grow-tight (stop c f) (branch a) (branch b) (next c f)
      (all-of _ (λ st. branch-mono a b st (heft-mono a b (omega arith) st.child st.feat)) (next c f)) e)

  same-chains : (a b : ℕ) → a ≤ b → (c f : ℕ) → Ends a c f → chains_by next a c f ≡ chains_by next b c f
  unfolding chains_by
  same-chains zero zero h c f e = refl
  same-chains zero (suc b) h c f e = sym (ap (grow (stop c f) (branch b)) e)
  same-chains (suc a) zero h c f e = absurd (not-suc-le-zero h)
  same-chains (suc a) (suc b) h c f e =
      grow-same (stop c f) (branch a) (branch b) (next c f)
      (all_map _ _ (λ st p. ap (map (push st.conn)) (same-chains a b (le_of_suc-le-suc h) st.child st.feat p)) (next c f) e)

  -- the same, said of the chains: one of k steps has no step from its end
  abbrev Last : ℕ → Chain → Type 0
  Last k e = length e.path ≡ k → next e.comp e.feat ≡ []

  abbrev Whole : ℕ → ℕ → ℕ → Type 0
  Whole k c f = All (Last k) (chains_by next k c f)

  whole-grow : (k c f : ℕ) (l : List Step) → All (Last (suc k)) (grow (stop c f) (branch k) l) → All (λ st. Whole k st.child st.feat) l
  whole-grow k c f [] t = tt
  whole-grow k c f (st ∷ sts) t =
      each_all (λ st. Whole k st.child st.feat) (Last (suc k)) (branch k)
      (λ st p. mapped-all (Last k) (Last (suc k)) (push st.conn) (λ e q h. q (ap suc h)) (chains_by next k st.child st.feat) p) (st ∷ sts) t

  ends→whole : (k c f : ℕ) → Ends k c f → Whole k c f
  unfolding chains_by
  ends→whole zero c f e = ((λ h. e), tt)
  ends→whole (suc k) c f e =
      all-grown (Last (suc k)) (λ st. Last k) k c f (λ z (h : 0 ≡ suc k). absurd (omega arith)) (λ st e q h. q (suc_inj h)) (all_map _ _ (λ st p. ends→whole k st.child st.feat p) (next c f) e)

  whole→ends : (k c f : ℕ) → Whole k c f → Ends k c f
  unfolding chains_by
  whole→ends zero c f w = w.0 refl
  whole→ends (suc k) c f w = all_map _ _ (λ st p. whole→ends k st.child st.feat p) (next c f) (whole-grow k c f (next c f) w)

-- i is a component below c
abbrev Below : Tables → ℕ → ℕ → Type 0
Below m c i = (c < i) × (i < c_count m)

record Leading (m : Tables) (s : Side) (c : ℕ) (st : Step) : Type 0 where
  of : x_owner m st.conn ≡ c
  near : T (present (x_sub m s st.conn))
  far : T (not (present (x_sub m (other s) st.conn)))
  below : Below m c st.child

module _ (m : Tables) (ok : Sound m) where
  below : (c i : ℕ) → c < c_count m → i < c_count m → c_parent m i ≡ c → Below m c i
  below c zero h l e = absurd (omega (arith, ok.few, ok.root))
  below c (suc i) h l e = (omega (arith, ok.parents (suc i) (omega arith) l), l)

  children-below : (c : ℕ) → c < c_count m → All (Below m c) (children_of m c)
  children-below c h = in_all (Below m c) (children_of m c) (λ i k. let r = child-row m c i k in below c i h r.0 r.1)

  -- the connections of a component are its own
  connections-of : (c : ℕ) → All (λ x. x_owner m x ≡ c) (connections_of m c)
  unfolding rows_naming
  connections-of c = all-passing (λ x. x_owner m x ≡ c) (λ x. eqb (x_owner m x) c) (λ x t. eqb→eq _ _ t) (up_to (x_count m))

  -- the connections of a chain from c: each belongs to a component that is larger than the one before's
  abbrev pub Trail : Side → ℕ → List ℕ → Type 0
  Trail s c [] = Unit {0}
  Trail s c (x ∷ xs) = (x_owner m x ≡ c) × T (present (x_sub m s x)) × T (not (present (x_sub m (other s) x))) × ((d : ℕ) × (c < d) × Trail s d xs)

  trail-near : (s : Side) (c : ℕ) (p : List ℕ) → Trail s c p → All (λ x. T (present (x_sub m s x))) p
  trail-near s c [] t = tt
  trail-near s c (x ∷ xs) t = (t.1, trail-near s t.3.0 xs t.3.2)

  -- no connection that a destination chain from d may hold
  abbrev pub Old : ℕ → ℕ → Type 0
  Old d x = T (present (x_sub m source x)) ⊎ (x_owner m x < d)

  old-later : (d e x : ℕ) → d ≤ e → Old d x → Old e x
  old-later d e x h (inl t) = inl t
  old-later d e x h (inr t) = inr (omega arith)

  old-not : (d x y : ℕ) → Old d y → x_owner m x ≡ d → T (not (present (x_sub m source x))) → x ≡ y → ⊥
  old-not d x y (inl t) o n e = T-clash (present (x_sub m source x)) n (subst (λ (z : ℕ). T (present (x_sub m source z))) (sym e) t)
  old-not d x y (inr t) o n e = omega (arith, o, t, ap (x_owner m) e)

  not_in : (d x : ℕ) (p : List ℕ) → All (Old d) p → x_owner m x ≡ d → T (not (present (x_sub m source x))) → has x p ≡ false
  not_in d x [] t o n = refl
  not_in d x (y ∷ ys) t o n = rw (ne_eqb x y (old-not d x y t.0 o n)) (not_in d x ys t.1 o n)

  -- "not yet in it" leaves nothing out
  pub fresh : (d : ℕ) (p q : List ℕ) → All (Old d) p → Trail destination d q → append_new p q ≡ p ++ q
  unfolding append_new
  fresh d p [] t u = sym (append-nil p)
  fresh d p (x ∷ xs) t u =
      rw (not_in d x p t u.0 u.2)
      (fresh u.3.0 (p ++ (x ∷ [])) xs
      (all_append (Old u.3.0) p (x ∷ []) (all_map (Old d) (Old u.3.0) (λ y o. old-later d u.3.0 y (omega (arith, u.3.1)) o) p t) (inr (omega (arith, u.0, u.3.1)), tt)) u.3.2
      ∙ append_assoc p (x ∷ []) xs)

module _ (same : Comparison) (m : Tables) (ok : Sound m) where
  found_below : (c : ℕ) (w : List ℕ) → c < c_count m → All (Below m c) (found_children same m c w)
  found_below c w h = found-kept same m c w (All (Below m c)) (λ p. all-kept (Below m c) p (children_of m c) (children-below m ok c h))

  leading : (s : Side) (c : ℕ) (w : List ℕ) (x i : ℕ) → T (leads same m s w x) → x_owner m x ≡ c → Below m c i → Leading m s c (step_to m s x i)
  unfolding leads
  leading s c w x i t o b =
      record {
        of = o;
        near = search and_left;
        far = search (and_left, and_right);
        below = b;
      }

  steps-leading : (s : Side) (c f : ℕ) → c < c_count m → All (Leading m s c) (steps same m s c f)
  unfolding steps steps_over
  steps-leading s c f h =
      all-each (λ x. T (leads same m s (name_of m f) x) × (x_owner m x ≡ c)) (Leading m s c) (steps_over same m s c)
      (λ x t. all-mapped (Below m c) (Leading m s c) (step_to m s x) (λ i b. leading s c (name_of m f) x i t.0 t.1 b) (found_children same m c (name_of m (x_sub m s x))) (found_below c _ h))
      (keep (leads same m s (name_of m f)) (connections_of m c))
      (all_keep (λ x. x_owner m x ≡ c) (λ x. T (leads same m s (name_of m f) x) × (x_owner m x ≡ c)) (leads same m s (name_of m f)) (λ x t o. (t, o)) (connections_of m c) (connections-of m ok c))

  chains-trail : (s : Side) (k c f : ℕ) → c < c_count m → All (λ e. Trail m ok s c e.path) (chains same m s k c f)
  unfolding chains chains_by
  chains-trail s zero c f h = (tt, tt)
  chains-trail s (suc k) c f h =
      all-grown (steps same m s) (λ e. Trail m ok s c e.path) (λ st e. Leading m s c st × Trail m ok s st.child e.path) k c f (λ z. tt)
      (λ st e q. (q.0.of, q.0.near, q.0.far, (st.child, q.0.below.0, q.1)))
      (all_map (Leading m s c) _
      (λ st g. all_map (λ e. Trail m ok s st.child e.path) (λ e. Leading m s c st × Trail m ok s st.child e.path) (λ e q. (g, q)) (chains same m s k st.child st.feat) (chains-trail s k st.child st.feat g.below.1))
      (steps same m s c f) (steps-leading s c f h))

-- ---- pairs

-- the weight of a pair's rows, by the chains of its starts
abbrev start_mass : Comparison → Tables → Side → ℕ → Start → ℕ
start_mass same m s k st = total end_weight (reach same m s k st)

abbrev pair_mass : Comparison → Tables → ℕ → Pair → ℕ
pair_mass same m k p = 2 * (start_mass same m source k p.from * start_mass same m destination k p.to)

abbrev pub GoodStart : Tables → ℕ → Start → Type 0
GoodStart m x (child c f) = (x_owner m x < c) × (c < c_count m)
GoodStart m x (owner c f) = Unit {0}

abbrev pub GoodPair : Tables → ℕ → Pair → Type 0
GoodPair m x p = GoodStart m x p.from × GoodStart m x p.to

all-zip_as : (P : ℕ → Type 0) (Q : Pair → Type 0) (g : ℕ → ℕ → Pair) → ((a b : ℕ) → P a → P b → Q (g a b)) → (l r : List ℕ) → All P l → All P r → All Q (zip_as g l r)
all-zip_as P Q g h [] r t u = tt
all-zip_as P Q g h (a ∷ l) [] t u = tt
all-zip_as P Q g h (a ∷ l) (b ∷ r) t u = (h a b t.0 u.0, all-zip_as P Q g h l r t.1 u.1)

all-all_as : (P : ℕ → Type 0) (Q : Pair → Type 0) (g : ℕ → ℕ → Pair) → ((a b : ℕ) → P a → P b → Q (g a b)) → (l r : List ℕ) → All P l → All P r → All Q (all_as g l r)
all-all_as P Q g h l r t u = all-each P Q (λ a. map (g a) r) (λ a p. all-mapped P Q (g a) (λ b q. h a b p q) r u) l t

all-pairs_across : (P : ℕ → Type 0) (Q : Pair → Type 0) (o : Bool) (g : ℕ → ℕ → Pair) → ((a b : ℕ) → P a → P b → Q (g a b)) → (l r : List ℕ) → All P l → All P r → All Q (pairs_across o g l r)
all-pairs_across P Q true g h l r t u = all-zip_as P Q g h l r t u
all-pairs_across P Q false g h l r t u = all-all_as P Q g h l r t u

all-pairs_edge : (P : ℕ → Type 0) (Q : Pair → Type 0) (o : Bool) (g : ℕ → Pair) → ((a : ℕ) → P a → Q (g a)) → (l : List ℕ) → All P l → All Q (pairs_edge o g l)
all-pairs_edge P Q true g h l t = tt
all-pairs_edge P Q false g h l t = all-mapped P Q g h l t

module _ (same : Comparison) (m : Tables) (ok : Sound m) (x : ℕ) (lx : x < x_count m) where
  named-below : (s : Side) → All (Below m (x_owner m x)) (named same m s x)
  unfolding named
  named-below s = found_below same m ok (x_owner m x) _ (ok.owners x lx)

  pairs_by-good : (h : Shape) → All (GoodPair m x) (pairs_by same m x h)
  unfolding pairs_by
  pairs_by-good faulty = tt
  pairs_by-good across =
      all-pairs_across (Below m (x_owner m x)) (GoodPair m x) (one_to_one m (x_owner m x)) (pair_across m x) (λ a b p q. (p, q))
      (named same m source x) (named same m destination x) (named-below source) (named-below destination)
  pairs_by-good upward =
      all-pairs_edge (Below m (x_owner m x)) (GoodPair m x) (present (c_parent m (x_owner m x))) (pair_up m x) (λ a p. (p, tt)) (named same m source x) (named-below source)
  pairs_by-good downward =
      all-pairs_edge (Below m (x_owner m x)) (GoodPair m x) (present (c_parent m (x_owner m x))) (pair_down m x) (λ a p. (tt, p)) (named same m destination x) (named-below destination)
  pairs_by-good neither = tt

  pub pairs-good : All (GoodPair m x) (pairs same m x)
  unfolding pairs
  pairs-good = pairs_by-good (shape m x)

  pub from-good : (k : ℕ) (st : Start) → GoodStart m x st → All (λ e. All (λ y. T (present (x_sub m source y))) e.path) (reach same m source k st)
  from-good k (child c f) g =
      all_map (λ e. Trail m ok source c e.path) (λ e. All (λ y. T (present (x_sub m source y))) e.path) (λ e t. trail-near m ok source c e.path t) (chains same m source k c f)
      (chains-trail same m ok source k c f g.1)
  from-good k (owner c f) g = (tt, tt)

  pub to-good : (k : ℕ) (st : Start) → GoodStart m x st → (d : ℕ) × (x_owner m x < d) × All (λ e. Trail m ok destination d e.path) (reach same m destination k st)
  to-good k (child c f) g = (c, g.0, chains-trail same m ok destination k c f g.1)
  to-good k (owner c f) g = (suc (x_owner m x), le_refl _, (tt, tt))

  -- ---- the weight of a pair's rows

  row-weight : (d : ℕ) (s e : Chain) → x_owner m x < d → All (λ y. T (present (x_sub m source y))) s.path → Trail m ok destination d e.path
      → weight (row_of m x s e).path ≡ 2 * end_weight s * end_weight e
  unfolding row_of
  row-weight d s e h t u =
      ap weight (fresh m ok d (x ∷ s.path) e.path (inr h, all_map _ _ (λ y q. inl q) s.path t) u)
      ∙ weight-append (x ∷ s.path) e.path

  rows-weight : (d : ℕ) (s : Chain) (es : List Chain) → x_owner m x < d → All (λ y. T (present (x_sub m source y))) s.path → All (λ e. Trail m ok destination d e.path) es
      → total (λ r. weight r.path) (map (row_of m x s) es) ≡ 2 * end_weight s * total end_weight es
  rows-weight d s es h t u =
      total-map (λ r. weight r.path) (row_of m x s) es
      ∙ total-same (λ e. weight (row_of m x s e).path) (λ e. 2 * end_weight s * end_weight e) es (all_map (λ e. Trail m ok destination d e.path) _ (λ e v. row-weight d s e h t v) es u)
      ∙ total-times (2 * end_weight s) end_weight es

  product-weight : (d : ℕ) (ss es : List Chain) → x_owner m x < d → All (λ e. All (λ y. T (present (x_sub m source y))) e.path) ss → All (λ e. Trail m ok destination d e.path) es
      → total (λ r. weight r.path) (each (λ s. map (row_of m x s) es) ss) ≡ 2 * (total end_weight ss * total end_weight es)
  product-weight d ss es h t u =
      total-each (λ r. weight r.path) (λ s. map (row_of m x s) es) ss
      ∙ total-same (λ s. total (λ r. weight r.path) (map (row_of m x s) es)) (λ s. 2 * end_weight s * total end_weight es) ss
      (all_map (λ s. All (λ y. T (present (x_sub m source y))) s.path) _ (λ s v. rows-weight d s es h v u) ss t)
      ∙ total-times-right (total end_weight es) (λ s. 2 * end_weight s) ss
      ∙ ap (λ (n : ℕ). n * total end_weight es) (total-times 2 end_weight ss)
      ∙ mul_assoc 2 (total end_weight ss) (total end_weight es)

  pair-weight : (k : ℕ) (p : Pair) → GoodPair m x p → total (λ r. weight r.path) (pair_rows same m k x p) ≡ pair_mass same m k p
  unfolding pair_rows
  pair-weight k p g =
      let (d, l, u) = to-good k p.to g.1 in
      product-weight d (reach same m source k p.from) (reach same m destination k p.to) l (from-good k p.from g.0) u

start-pos : (same : Comparison) (m : Tables) (s : Side) (k : ℕ) (st : Start) → 0 < start_mass same m s k st
unfolding chains
start-pos same m s k (child c f) = heft-pos (steps same m s) k c f
start-pos same m s k (owner c f) = le_refl 1

start-mono : (same : Comparison) (m : Tables) (s : Side) (a b : ℕ) → a ≤ b → (st : Start) → start_mass same m s a st ≤ start_mass same m s b st
unfolding chains
start-mono same m s a b h (child c f) = heft-mono (steps same m s) a b h c f
start-mono same m s a b h (owner c f) = le_refl 1

start-tight : (same : Comparison) (m : Tables) (s : Side) (a b : ℕ) → a < b → (st : Start) → start_mass same m s b st ≤ start_mass same m s a st → StartWhole same m s a st
unfolding chains
start-tight same m s a b h (child c f) e =
    ends→whole (steps same m s) a c f (tight (steps same m s) a b h c f (omega (arith, e, heft-mono (steps same m s) a b (omega arith) c f)))
start-tight same m s a b h (owner c f) e = tt

start-same : (same : Comparison) (m : Tables) (s : Side) (a b : ℕ) → a ≤ b → (st : Start) → StartWhole same m s a st → reach same m s a st ≡ reach same m s b st
unfolding chains
start-same same m s a b h (child c f) w = same-chains (steps same m s) a b h c f (whole→ends (steps same m s) a c f w)
start-same same m s a b h (owner c f) w = refl

-- ⇐, for any model
pub traced-same : (same : Comparison) (m : Tables) (a b : ℕ) → a ≤ b → NoFurther same a m → traced same a m ≡ traced same b m
unfolding traced rows_at pair_rows NoFurther
traced-same same m a b h w =
    each_same (rows_at same m a) (rows_at same m b) (up_to (x_count m))
    (all_map (λ x. All (PairWhole same m a) (pairs same m x)) (λ x. rows_at same m a x ≡ rows_at same m b x)
    (λ x t. each_same (pair_rows same m a x) (pair_rows same m b x) (pairs same m x)
    (all_map (PairWhole same m a) (λ p. pair_rows same m a x p ≡ pair_rows same m b x p)
    (λ p q. ap₂ (λ (us vs : List Chain). each (λ s. map (row_of m x s) vs) us) (start-same same m source a b h p.from q.0) (start-same same m destination a b h p.to q.1))
    (pairs same m x) t)) (up_to (x_count m)) w)

module _ (same : Comparison) (m : Tables) (ok : Sound m) where
  abbrev mass : ℕ → ℕ
  mass k = total (λ r. weight r.path) (traced same k m)

  abbrev x_mass : ℕ → ℕ → ℕ
  x_mass k x = total (λ r. weight r.path) (rows_at same m k x)

  mass-rows : (k : ℕ) → mass k ≡ total (x_mass k) (up_to (x_count m))
  unfolding traced
  mass-rows k = total-each (λ r. weight r.path) (rows_at same m k) (up_to (x_count m))

  mass-pairs : (k x : ℕ) → x < x_count m → x_mass k x ≡ total (pair_mass same m k) (pairs same m x)
  unfolding rows_at
  mass-pairs k x lx =
      total-each (λ r. weight r.path) (pair_rows same m k x) (pairs same m x)
      ∙ total-same (λ p. total (λ r. weight r.path) (pair_rows same m k x p)) (pair_mass same m k) (pairs same m x)
      (all_map (GoodPair m x) _ (λ p g. pair-weight same m ok x lx k p g) (pairs same m x) (pairs-good same m ok x lx))

  pair_mass-mono : (a b : ℕ) → a ≤ b → (p : Pair) → pair_mass same m a p ≤ pair_mass same m b p
  pair_mass-mono a b h p = mul-le-mul_left 2 (mul-le-mul (start-mono same m source a b h p.from) (start-mono same m destination a b h p.to))

  x_mass-mono : (a b : ℕ) → a ≤ b → (x : ℕ) → x < x_count m → x_mass a x ≤ x_mass b x
  x_mass-mono a b h x lx = rw (mass-pairs a x lx, mass-pairs b x lx) (total_mono (pair_mass same m a) (pair_mass same m b) (pairs same m x) (all-of _ (pair_mass-mono a b h) (pairs same m x)))

  pair-tight : (a b : ℕ) → a < b → (p : Pair) → pair_mass same m a p ≡ pair_mass same m b p → PairWhole same m a p
  pair-tight a b h p e = (
    start-tight same m source a b h p.from (times-tight _ _ _ _ (start-pos same m destination a p.to) (start-mono same m destination a b (omega arith) p.to) w),
    start-tight same m destination a b h p.to (times-tight _ _ _ _ (start-pos same m source a p.from) (start-mono same m source a b (omega arith) p.from) (mul_comm (to a) (from a) ∙ w ∙ mul_comm (from b) (to b))),
  )
    where
      from : ℕ → ℕ
      from k = start_mass same m source k p.from

      to : ℕ → ℕ
      to k = start_mass same m destination k p.to

      w : from a * to a ≡ from b * to b
      w = omega (arith, e)

  x-tight : (a b : ℕ) → a < b → (x : ℕ) → x < x_count m → x_mass a x ≡ x_mass b x → All (PairWhole same m a) (pairs same m x)
  x-tight a b h x lx e =
      all_map (λ p. pair_mass same m a p ≡ pair_mass same m b p) (PairWhole same m a) (pair-tight a b h) (pairs same m x)
      (total-tight (pair_mass same m a) (pair_mass same m b) (pairs same m x) (all-of _ (pair_mass-mono a b (omega arith)) (pairs same m x)) (sym (mass-pairs a x lx) ∙ e ∙ mass-pairs b x lx))

  -- ⇒: of the rows only the sum of their paths' weights is used
  mass-tight : (a b : ℕ) → a < b → mass a ≡ mass b → NoFurther same a m
  unfolding NoFurther
  mass-tight a b h e =
      all-zip (λ x. x < x_count m) (λ x. x_mass a x ≡ x_mass b x) (λ x. All (PairWhole same m a) (pairs same m x)) (x-tight a b h) (up_to (x_count m)) (up_to-below (x_count m))
      (total-tight (x_mass a) (x_mass b) (up_to (x_count m))
      (all_map (λ x. x < x_count m) (λ x. x_mass a x ≤ x_mass b x) (x_mass-mono a b (omega arith)) (up_to (x_count m)) (up_to-below (x_count m))) (sym (mass-rows a) ∙ e ∙ mass-rows b))

  shown-mass : (k : ℕ) → total (λ r. weight r.path) (rows same k m) ≡ mass k
  unfolding rows shown
  shown-mass k = total-map (λ r. weight r.path) (shown m) (traced same k m)

  -- THE LIMIT, over two limits: the rows with their names' bytes
  pub limit : (a b : ℕ) → a < b → (rows same a m ≡ rows same b m) ↔ NoFurther same a m
  unfolding rows
  limit a b h =
      ((λ e. mass-tight a b h (sym (shown-mass a) ∙ ap (total (λ r. weight r.path)) e ∙ shown-mass b)), (λ w. ap (map (shown m)) (traced-same same m a b (omega arith) w)))

  -- ---- without a limit

  -- each step leads to a larger component, so a chain has fewer steps than there are components
  pub runs-out : (s : Side) (k c f : ℕ) → c < c_count m → c_count m ≤ c + k → Ends (steps same m s) k c f
  runs-out s zero c f h l = absurd (omega arith)
  runs-out s (suc k) c f h l =
      all_map (Leading m s c) _ (λ st g. runs-out s k st.child st.feat g.below.1 (omega (arith, g.below.0))) (steps same m s c f) (steps-leading same m ok s c f h)

  start-ends : (s : Side) (k x : ℕ) → c_count m ≤ k → (st : Start) → GoodStart m x st → StartWhole same m s k st
  unfolding chains
  start-ends s k x h (child c f) g = ends→whole (steps same m s) k c f (runs-out s k c f g.1 (omega arith))
  start-ends s k x h (owner c f) g = tt

  pub no-further : (k : ℕ) → c_count m ≤ k → NoFurther same k m
  unfolding NoFurther
  no-further k h =
      all_map (λ x. x < x_count m) (λ x. All (PairWhole same m k) (pairs same m x))
      (λ x lx. all_map (GoodPair m x) (PairWhole same m k) (λ p g. (start-ends source k x h p.from g.0, start-ends destination k x h p.to g.1)) (pairs same m x) (pairs-good same m ok x lx))
      (up_to (x_count m)) (up_to-below (x_count m))

  -- what `unlimited` gives is what every limit gives that is at least the number of components
  pub unlimited-is : (k : ℕ) → c_count m ≤ k → unlimited same m ≡ rows same k m
  unfolding unlimited rows
  unlimited-is k h = ap (map (shown m)) (traced-same same m (c_count m) k h (no-further (c_count m) (le_refl (c_count m))))

  -- a limit against none
  pub limit-unlimited : (k : ℕ) → (rows same k m ≡ unlimited same m) ↔ NoFurther same k m
  limit-unlimited k = (
    (λ e. (limit k (c_count m + suc k) (omega arith)).0 (e ∙ unlimited-is (c_count m + suc k) (omega arith))),
    (λ w. (limit k (c_count m + suc k) (omega arith)).1 w ∙ sym (unlimited-is (c_count m + suc k) (omega arith))),
  )
