-- Laws of a diagnostic's text: its message by its code, its path names, and the pieces that it is printed in. Assumes nothing.
use mathlib.Core.Bool.{Bool}
use mathlib.Core.Path.{◌≡◌, sym, ap, ap₂, ◌∙◌}
use mathlib.Core.List.{List, [], ◌∷◌, ◌++◌, append_assoc, append-nil}
use Prim.Native.Nat.{ℕ, zero, suc, ◌≤◌, ◌<◌}
use native.Mathlib.Omega.{arith}
use borrow.Author.Tests.{lt-ltb, le-ltb}
use lib.Dec.{ltb}
use lib.ListN.{length, get_or}
use lib.Seq.{take_all}
use Rattle.as5506.specs.Lists.{each, bytes_of}
use Rattle.as5506.specs.Tables.{Tables, name_of, c_name, x_name, x_owner}
use Rattle.as5506.specs.Layout.{diag_numbers, diag_back}
use Rattle.as5506.specs.Text.{digits, column, number_line, text_line, quoted, message, path_names, diag_text}
use Rattle.text.proofs.Blocks.{first-four}

-- ---- the message, by its code

-- the marks of quotation, with what stands beside them
quoted-end : (a q s : List ℕ) → a ++ (q ++ s ++ q) ≡ a ++ q ++ s ++ q
quoted-end a q s = simp append_assoc

quoted-first : (a q s b r : List ℕ) → a ++ (q ++ s ++ q) ++ b ++ r ≡ a ++ q ++ s ++ (q ++ b) ++ r
quoted-first a q s b r = simp append_assoc

quoted-twice : (a q s b t c : List ℕ) → a ++ (q ++ s ++ q) ++ b ++ (q ++ t ++ q) ++ c ≡ a ++ q ++ s ++ (q ++ b ++ q) ++ ([] ++ t ++ (q ++ c))
quoted-twice a q s b t c = simp append_assoc

on-connection : (conn s : List ℕ) → bytes_of "connection " ++ (bytes_of "'" ++ conn ++ bytes_of "'") ++ bytes_of ": " ++ s ≡ bytes_of "connection '" ++ conn ++ bytes_of "': " ++ s
on-connection conn s = quoted-first (bytes_of "connection ") (bytes_of "'") conn (bytes_of ": ") s

pub message-none : (m : Tables) (conn : List ℕ) (code a b : ℕ) → code ≡ 0 → message m conn code a b ≡ []
unfolding message
message-none m conn code a b h = ap (λ (k : ℕ). message m conn k a b) h

module _ (m : Tables) (conn : List ℕ) (code a b : ℕ) where
  pub message-endpoint : code ≡ 1 → message m conn code a b ≡ bytes_of "connection '" ++ conn ++ bytes_of "': " ++ bytes_of "missing endpoint"
  unfolding message
  message-endpoint h = ap (λ (k : ℕ). message m conn k a b) h ∙ on-connection conn (bytes_of "missing endpoint")

  pub message-source : code ≡ 2 → message m conn code a b
      ≡ bytes_of "connection '" ++ conn ++ bytes_of "': " ++ (bytes_of "unresolved source subcomponent '" ++ name_of m a ++ bytes_of "'")
  unfolding message
  message-source h =
      ap (λ (k : ℕ). message m conn k a b) h ∙ on-connection conn (bytes_of "unresolved source subcomponent " ++ quoted (name_of m a))
      ∙ ap (λ (s : List ℕ). bytes_of "connection '" ++ conn ++ bytes_of "': " ++ s) (quoted-end (bytes_of "unresolved source subcomponent ") (bytes_of "'") (name_of m a))

  pub message-destination : code ≡ 3 → message m conn code a b
      ≡ bytes_of "connection '" ++ conn ++ bytes_of "': " ++ (bytes_of "unresolved destination subcomponent '" ++ name_of m a ++ bytes_of "'")
  unfolding message
  message-destination h =
      ap (λ (k : ℕ). message m conn k a b) h ∙ on-connection conn (bytes_of "unresolved destination subcomponent " ++ quoted (name_of m a))
      ∙ ap (λ (s : List ℕ). bytes_of "connection '" ++ conn ++ bytes_of "': " ++ s) (quoted-end (bytes_of "unresolved destination subcomponent ") (bytes_of "'") (name_of m a))

  pub message-sizes : code ≡ 4 → message m conn code a b
      ≡ bytes_of "connection '" ++ conn ++ bytes_of "': "
      ++ (bytes_of "One_To_One pattern requires equal array sizes (source=" ++ digits a ++ bytes_of ", destination=" ++ digits b ++ bytes_of ")")
  unfolding message
  message-sizes h =
      ap (λ (k : ℕ). message m conn k a b) h
      ∙ on-connection conn (bytes_of "One_To_One pattern requires equal array sizes (source=" ++ digits a ++ bytes_of ", destination=" ++ digits b ++ bytes_of ")")

pub message-unmatched : (m : Tables) (conn name : List ℕ) (code a b : ℕ) → name ≡ name_of m a → 4 < code → message m conn code a b
    ≡ bytes_of "feature group connection '" ++ conn ++ bytes_of "': source feature '"
    ++ ([] ++ name ++ bytes_of "' has no matching destination feature (STPA-REQ-011)")
unfolding message
message-unmatched m conn name zero a b e h = absurd (omega arith)
message-unmatched m conn name (suc zero) a b e h = absurd (omega arith)
message-unmatched m conn name (suc (suc zero)) a b e h = absurd (omega arith)
message-unmatched m conn name (suc (suc (suc zero))) a b e h = absurd (omega arith)
message-unmatched m conn name (suc (suc (suc (suc zero)))) a b e h = absurd (omega arith)
message-unmatched m conn name (suc (suc (suc (suc (suc k))))) a b e h =
    quoted-twice (bytes_of "feature group connection ") (bytes_of "'") conn (bytes_of ": source feature ") (name_of m a) (bytes_of " has no matching destination feature (STPA-REQ-011)")
    ∙ ap (λ (s : List ℕ). bytes_of "feature group connection '" ++ conn ++ bytes_of "': source feature '" ++ ([] ++ s ++ bytes_of "' has no matching destination feature (STPA-REQ-011)")) (sym e)

-- ---- the path names

abbrev pub at_line : List ℕ → List ℕ
at_line s = bytes_of "@ " ++ s ++ bytes_of "\n"

two-lines : (s t : List ℕ) → each (text_line (bytes_of "@")) (s ∷ t ∷ []) ≡ at_line s ++ at_line t
unfolding text_line
two-lines s t = ap (λ (l : List ℕ). at_line s ++ l) (append-nil (at_line t))

module _ (m : Tables) (b name : List ℕ) (e : name ≡ name_of m (x_name m (get_or b 1 0))) where
  pub path-owner : (owner k : ℕ) (above : List ℕ) → get_or b 0 0 < 5 → owner ≡ x_owner m (get_or b 1 0) → k ≡ c_name m owner → above ≡ name_of m k
      → each (text_line (bytes_of "@")) (path_names m (diag_back b) (ltb (get_or b 0 0) 5)) ≡ at_line above ++ at_line name
  unfolding path_names diag_back
  path-owner owner k above h p q r =
      ap (λ (v : Bool). each (text_line (bytes_of "@")) (path_names m (diag_back b) v)) (lt-ltb (get_or b 0 0) 5 h)
      ∙ two-lines _ _ ∙ ap₂ (λ (s t : List ℕ). at_line s ++ at_line t) (sym (r ∙ ap (name_of m) (q ∙ ap (c_name m) p))) (sym e)

  pub path-feature : (feature : List ℕ) → 5 ≤ get_or b 0 0 → feature ≡ name_of m (get_or b 2 0)
      → each (text_line (bytes_of "@")) (path_names m (diag_back b) (ltb (get_or b 0 0) 5)) ≡ at_line name ++ at_line feature
  unfolding path_names diag_back
  path-feature feature h q =
      ap (λ (v : Bool). each (text_line (bytes_of "@")) (path_names m (diag_back b) v)) (le-ltb (get_or b 0 0) 5 h)
      ∙ two-lines _ _ ∙ ap₂ (λ (s t : List ℕ). at_line s ++ at_line t) (sym e) (sym q)

-- ---- a diagnostic

whole-block : (b : List ℕ) → length b ≡ diag_numbers → get_or b 0 0 ∷ get_or b 1 0 ∷ get_or b 2 0 ∷ get_or b 3 0 ∷ [] ≡ b
whole-block b h = sym (first-four b (omega (arith, h))) ∙ take_all diag_numbers b (omega (arith, h))

begun-line : (d feed mark s rest : List ℕ) → d ++ feed ++ (mark ++ s ++ feed) ++ rest ≡ d ++ (feed ++ mark) ++ s ++ feed ++ rest
begun-line d feed mark s rest = simp append_assoc

-- the pieces that it is printed in
pub diag-pieces : (m : Tables) (b name : List ℕ) → length b ≡ diag_numbers → name ≡ name_of m (x_name m (get_or b 1 0))
    → diag_text m (diag_back b)
    ≡ bytes_of "D" ++ each column b ++ bytes_of "\n! " ++ message m name (get_or b 0 0) (get_or b 2 0) (get_or b 3 0) ++ bytes_of "\n"
    ++ each (text_line (bytes_of "@")) (path_names m (diag_back b) (ltb (get_or b 0 0) 5))
unfolding diag_text diag_back number_line text_line
diag-pieces m b name h e =
    let paths = each (text_line (bytes_of "@")) (path_names m (diag_back b) (ltb (get_or b 0 0) 5)) in
    begun-line (bytes_of "D" ++ each column (get_or b 0 0 ∷ get_or b 1 0 ∷ get_or b 2 0 ∷ get_or b 3 0 ∷ [])) (bytes_of "\n") (bytes_of "! ")
    (message m (name_of m (x_name m (get_or b 1 0))) (get_or b 0 0) (get_or b 2 0) (get_or b 3 0)) paths
    ∙ ap₂ (λ (l s : List ℕ). bytes_of "D" ++ each column l ++ bytes_of "\n! " ++ message m s (get_or b 0 0) (get_or b 2 0) (get_or b 3 0) ++ bytes_of "\n" ++ paths)
    (whole-block b h) (sym e)
