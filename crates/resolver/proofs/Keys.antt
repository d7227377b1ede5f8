-- A search by a key of parts is the definition's, for each table. Assumes nothing.
use mathlib.Core.Bool.{Bool, ◌&&◌, and-true}
use mathlib.Core.Path.{◌≡◌, refl, sym, ap, ◌∙◌}
use Prim.Native.Nat.{ℕ}
use lib.Dec.{eqb}
use Rattle.std.specs.Prelude.{Option}
use Rattle.as5506.specs.Lists.{up_to, keep, first_of, same_bytes}
use Rattle.as5506.specs.Tables.{Tables, Letter, letter_p, table, width, at, letter_t, letter_q, letter_u, letter_r, count, rows_naming, p_name, q_package, q_type, q_impl, r_package, r_what, r_alias}
use Rattle.as5506.specs.Names.{key, same_folded}
use Rattle.as5506.specs.Resolve.{package_named, type_named, impl_named, group_named, renames_named}
use Rattle.as5506.proofs.Scans.{keep-both, keep_same}
use Rattle.resolver.specs.declared.Key.{Key}
use Rattle.resolver.specs.declared.Part.TheVariants.{Number, Name, Any}
use Rattle.resolver.specs.Keys.{has_part, has_key, row_has_key, rows_with_key}

module _ (m : Tables) where
  -- by a test that says the same
  found-by : (l : Letter) (k : Key) (p : ℕ → Bool) → ((i : ℕ) → row_has_key m (table m l) (width l) k i ≡ p i)
      → first_of (rows_with_key m (table m l) (width l) k) ≡ first_of (keep p (up_to (count m l)))
  found-by l k p same = ap first_of (keep_same (row_has_key m (table m l) (width l) k) p same (up_to (count m l)))

  -- the rows of package g, of a table whose first field is the package, that pass a test
  naming : (l : Letter) (g : ℕ) (p : ℕ → Bool) → keep p (rows_naming m l (λ i. at m l i 0) g) ≡ keep (λ i. eqb (at m l i 0) g && p i) (up_to (count m l))
  unfolding rows_naming
  naming l g p = keep-both p (λ i. eqb (at m l i 0) g) (up_to (count m l))

  pub package_found : (k : ℕ) (z : Option ℕ) → z ≡ first_of (rows_with_key m m.p 1 (Name k, Any, Any)) → z ≡ package_named m (key m k)
  unfolding package_named has_key has_part same_folded key
  package_found k z e = e ∙ found-by letter_p (Name k, Any, Any) (λ i. same_bytes (key m (p_name m i)) (key m k)) (λ i. and-true (same_bytes (key m (p_name m i)) (key m k)))

  -- T and U: a package and a name
  named : (l : Letter) (g k : ℕ) → first_of (rows_with_key m (table m l) (width l) (Number g, Name k, Any)) ≡ first_of (keep (λ i. same_bytes (key m (at m l i 1)) (key m k)) (rows_naming m l (λ i. at m l i 0) g))
  unfolding has_key has_part same_folded key
  named l g k =
      let p : ℕ → Bool = λ i. same_bytes (key m (at m l i 1)) (key m k) in
      found-by l (Number g, Name k, Any) (λ i. eqb (at m l i 0) g && p i) (λ i. ap (λ (b : Bool). eqb (at m l i 0) g && b) (and-true (p i)))
      ∙ ap first_of (sym (naming l g p))

  pub type_found : (g k : ℕ) (z : Option ℕ) → z ≡ first_of (rows_with_key m m.t 3 (Number g, Name k, Any)) → z ≡ type_named m g (key m k)
  unfolding type_named
  type_found g k z e = e ∙ named letter_t g k

  pub group_found : (g k : ℕ) (z : Option ℕ) → z ≡ first_of (rows_with_key m m.u 9 (Number g, Name k, Any)) → z ≡ group_named m g (key m k)
  unfolding group_named
  group_found g k z e = e ∙ named letter_u g k

  pub impl_found : (g k j : ℕ) (z : Option ℕ) → z ≡ first_of (rows_with_key m m.q 4 (Number g, Name k, Name j)) → z ≡ impl_named m g (key m k) (key m j)
  unfolding impl_named has_key has_part same_folded key
  impl_found g k j z e =
      let p : ℕ → Bool = λ i. same_bytes (key m (q_type m i)) (key m k) && same_bytes (key m (q_impl m i)) (key m j) in
      e ∙ found-by letter_q (Number g, Name k, Name j) (λ i. eqb (q_package m i) g && p i) (λ i. refl) ∙ ap first_of (sym (naming letter_q g p))

  -- v is the number of what is renamed
  pub rename_found : (g w v k : ℕ) (z : Option ℕ) → v ≡ w → z ≡ first_of (rows_with_key m m.r 5 (Number g, Number v, Name k)) → z ≡ first_of (renames_named m g w (key m k))
  unfolding renames_named has_key has_part same_folded key
  rename_found g w v k z f e =
      let p : ℕ → Bool = λ i. same_bytes (key m (r_alias m i)) (key m k) in
      let q : ℕ → Bool = λ i. eqb (r_what m i) w in
      e ∙ ap (λ (v : ℕ). first_of (rows_with_key m m.r 5 (Number g, Number v, Name k))) f ∙ found-by letter_r (Number g, Number w, Name k) (λ i. eqb (r_package m i) g && (q i && p i)) (λ i. refl)
      ∙ ap first_of (sym (keep-both p q (rows_naming m letter_r (r_package m) g) ∙ naming letter_r g (λ i. q i && p i)))
