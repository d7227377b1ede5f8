-- What each function goes by that prints in pieces: these, one behind the other, are its text; and what each turn of a loop says. Assumes nothing.
use mathlib.Core.Path.{◌≡◌, refl, sym, ap₂, ◌∙◌, subst}
use mathlib.Core.List.{List, [], ◌∷◌, ◌++◌, map, append_assoc}
use Prim.Native.Nat.{ℕ, ◌+◌, ◌≤◌, ◌<◌}
use native.Mathlib.Omega.{arith}
use lib.Dec.{ltb}
use lib.ListN.{length, get_or, take, drop}
use Rattle.as5506.specs.Lists.{each, bytes_of}
use Rattle.as5506.specs.Fields.{space}
use Rattle.as5506.specs.Sheet.{line_feed}
use Rattle.as5506.specs.declared.Refusal.{Refusal as Told}
use Rattle.as5506.specs.Tables.{Tables, name_of, c_name, x_name, x_owner}
use Rattle.as5506.specs.Layout.{row_numbers, row_back, group_back, names_behind, diag_numbers, diag_back}
use Rattle.as5506.specs.Text.{digits, column, number_line, text_line, row_text, message, path_names}
use Rattle.lent.specs.Append.{append_all, together}
use Rattle.lent.proofs.Pieces.{all_fit, all-full, all-length}
use Rattle.output.specs.Put.{Put, output_of}
use Rattle.output.specs.declared.Output.{Output}
use Rattle.output.proofs.Put.{Printing, put_as, put_none, printing_start, printing_turn, printing_end, ◌▷◌}
use Rattle.text.specs.Printing.{row_named, group_rows, traced_text, diagnostic_text, list_of, refusal_of}
use Rattle.text.proofs.Blocks.{group-named, traced-named, row-pieces, group-next, group-done}
use Rattle.text.proofs.Printed.{list-pieces}
use Rattle.text.proofs.Messages.{message-none, message-endpoint, message-source, message-destination, message-sizes, path-owner, path-feature, diag-pieces, at_line}

module _ {o o₁ o₂ o₃ : Output} where
  pub three_put : {a b c : List ℕ} → Put a o o₁ → Put b o₁ o₂ → Put c o₂ o₃ → Put (a ++ b ++ c) o o₃
  three_put p q r = p ▷ q ▷ r

  module _ {o₄ : Output} where
    pub counts_put : (a b : ℕ) → Put (bytes_of "Z") o o₁ → Put (column a) o₁ o₂ → Put (column b) o₂ o₃ → Put (bytes_of "\n") o₃ o₄ → Put (number_line (bytes_of "Z") (a ∷ b ∷ [])) o o₄
    unfolding number_line
    counts_put a b p q r s = put_as (p ▷ q ▷ r ▷ s) (simp append_assoc)

    pub selection_put : (rows name : List ℕ) → Put (bytes_of "M") o o₁ → Put (each column rows) o₁ o₂ → Put (bytes_of "\n") o₂ o₃ → Put (bytes_of "= " ++ name ++ bytes_of "\n") o₃ o₄
        → Put (number_line (bytes_of "M") rows ++ text_line (bytes_of "=") name) o o₄
    unfolding number_line text_line
    selection_put rows name p q r s = p ▷ q ▷ r ▷ s

    pub refusal_put : (r : Told) → Put (bytes_of "R") o o₁ → Put (column r.number) o₁ o₂ → Put (column r.place) o₂ o₃ → Put (space ∷ r.letter ∷ line_feed ∷ []) o₃ o₄ → Put (refusal_of r) o o₄
    unfolding refusal_of
    refusal_put r p q s t = p ▷ q ▷ s ▷ t

    -- a row, and a diagnostic, by their blocks
    pub row_put : {o₅ o₆ o₇ o₈ : Output} (b path name source destination : List ℕ) → length b ≡ row_numbers → path ≡ take (get_or b 7 0) (drop 8 b)
        → Put (bytes_of "S") o o₁ → Put (each column (take 4 b)) o₁ o₂ → Put (column (length path)) o₂ o₃ → Put (each column path) o₃ o₄ → Put (bytes_of "\n") o₄ o₅
        → Put (bytes_of "= " ++ name ++ bytes_of "\n") o₅ o₆ → Put (bytes_of "< " ++ source ++ bytes_of "\n") o₆ o₇ → Put (bytes_of "> " ++ destination ++ bytes_of "\n") o₇ o₈
        → Put (row_text (row_named b name source destination)) o o₈
    row_put b path name source destination h e p q r s t u v w = put_as (p ▷ q ▷ r ▷ s ▷ t ▷ u ▷ v ▷ w) (row-pieces b path name source destination (omega (arith, h)) e)

    pub diag_put : {o₅ o₆ : Output} (m : Tables) (b name : List ℕ) → length b ≡ diag_numbers → name ≡ name_of m (x_name m (get_or b 1 0))
        → Put (bytes_of "D") o o₁ → Put (each column b) o₁ o₂ → Put (bytes_of "\n! ") o₂ o₃ → Put (message m name (get_or b 0 0) (get_or b 2 0) (get_or b 3 0)) o₃ o₄ → Put (bytes_of "\n") o₄ o₅
        → Put (each (text_line (bytes_of "@")) (path_names m (diag_back b) (ltb (get_or b 0 0) 5))) o₅ o₆ → Put (diagnostic_text m b) o o₆
    unfolding diagnostic_text
    diag_put m b name h e p q r s t u = put_as (p ▷ q ▷ r ▷ s ▷ t ▷ u) (diag-pieces m b name h e)

pub list_put : {o o₁ o₂ o₃ o₄ o₅ : Output} (m : Tables) (traced group : List (List ℕ)) (names : List ℕ) (diags group_diags : List (List ℕ))
    → Put (each (traced_text m) traced) o o₁ → Put (each row_text (group_rows group names)) o₁ o₂ → Put (each (diagnostic_text m) diags) o₂ o₃ → Put (each (diagnostic_text m) group_diags) o₃ o₄
    → Put (number_line (bytes_of "Z") (length traced ∷ length group ∷ [])) o₄ o₅
    → Put (list_of m (map (row_back m) traced) (group_rows group names) (map diag_back diags) (map diag_back group_diags)) o o₅
list_put m traced group names diags group_diags p q r s t = put_as (p ▷ q ▷ r ▷ s ▷ t) (list-pieces m traced group names diags group_diags)

-- a row by its three names, which stand with it or in the tables
pub group_row_put : {o o' : Output} (b names second third name source destination : List ℕ) → second ≡ drop (get_or b 4 0) names → third ≡ drop (get_or b 5 0) second
    → name ≡ take (get_or b 4 0) names → source ≡ take (get_or b 5 0) second → destination ≡ take (get_or b 6 0) third
    → Put (row_text (row_named b name source destination)) o o' → Put (row_text (group_back b names)) o o'
group_row_put b names second third name source destination e f p q r put = put_as put (group-named b names second third e f name source destination p q r)

pub traced_row_put : {o o' : Output} (m : Tables) (b name source destination : List ℕ) → name ≡ name_of m (get_or b 4 0) → source ≡ name_of m (get_or b 5 0) → destination ≡ name_of m (get_or b 6 0)
    → Put (row_text (row_named b name source destination)) o o' → Put (traced_text m b) o o'
unfolding traced_text
traced_row_put m b name source destination p q r put = put_as put (traced-named m b name source destination p q r)

-- ---- the loop over the group rows

module _ (rows : List (List ℕ)) (names : List ℕ) where
  -- those before place i are printed into an output that was o₀, and left is what is left of the names
  unfoldable pub PrintingRows : (o₀ o : Output) → ℕ → List ℕ → Type 0
  PrintingRows o₀ o i left = Printing (each row_text (group_rows rows names)) o₀ o (each row_text (group_rows (drop i rows) left))

  pub rows_start : (o : Output) → PrintingRows o o 0 names
  unfolding PrintingRows
  rows_start o = printing_start refl

  module _ (o₀ o : Output) (i : ℕ) (left : List ℕ) (p : PrintingRows o₀ o i left) where
    -- the one at place i is printed, in pieces ps
    pub rows_turn : (behind : List ℕ) (o₁ : Output) (ps : List (List ℕ)) → i < length rows → behind ≡ names_behind (get_or rows i []) left → o₁.bytes.ghost_name ≡ o.bytes.ghost_name
        → together ps ≡ row_text (group_back (get_or rows i []) left) → output_of o₁ ≡ append_all ps (output_of o) → PrintingRows o₀ o₁ (i + 1) behind
    unfolding PrintingRows
    rows_turn behind o₁ ps h e a b c = printing_turn p (record { same = a; pieces = ps; text = b; holds = c }) (group-next rows left behind i h e)

    pub rows_end : (n : ℕ) → n ≡ length rows → n ≤ i → Put (each row_text (group_rows rows names)) o₀ o
    unfolding PrintingRows
    rows_end n e h = printing_end p (group-done rows left i (subst (λ (n : ℕ). n ≤ i) e h))

pub ruleset printing_rows = (rows_start, rows_turn, rows_end)

-- ---- a diagnostic

module _ {o : Output} (m : Tables) (conn : List ℕ) (code a b : ℕ) where
  pub message_none : code ≡ 0 → Put (message m conn code a b) o o
  message_none h = put_as (put_none o) (message-none m conn code a b h)

  module _ {o₁ o₂ : Output} (first second : List ℕ) where
    pub message_endpoint : code ≡ 1 → first ≡ bytes_of "connection '" ++ conn ++ bytes_of "': " → second ≡ bytes_of "missing endpoint" → Put first o o₁ → Put second o₁ o₂ → Put (message m conn code a b) o o₂
    message_endpoint h e f p q = put_as (p ▷ q) (message-endpoint m conn code a b h ∙ ap₂ ◌++◌ (sym e) (sym f))

    pub message_source : code ≡ 2 → first ≡ bytes_of "connection '" ++ conn ++ bytes_of "': " → second ≡ bytes_of "unresolved source subcomponent '" ++ name_of m a ++ bytes_of "'" → Put first o o₁ → Put second o₁ o₂ → Put (message m conn code a b) o o₂
    message_source h e f p q = put_as (p ▷ q) (message-source m conn code a b h ∙ ap₂ ◌++◌ (sym e) (sym f))

    pub message_destination : code ≡ 3 → first ≡ bytes_of "connection '" ++ conn ++ bytes_of "': " → second ≡ bytes_of "unresolved destination subcomponent '" ++ name_of m a ++ bytes_of "'" → Put first o o₁ → Put second o₁ o₂ → Put (message m conn code a b) o o₂
    message_destination h e f p q = put_as (p ▷ q) (message-destination m conn code a b h ∙ ap₂ ◌++◌ (sym e) (sym f))

    pub message_sizes : code ≡ 4 → first ≡ bytes_of "connection '" ++ conn ++ bytes_of "': "
        → second ≡ bytes_of "One_To_One pattern requires equal array sizes (source=" ++ digits a ++ bytes_of ", destination=" ++ digits b ++ bytes_of ")" → Put first o o₁ → Put second o₁ o₂ → Put (message m conn code a b) o o₂
    message_sizes h e f p q = put_as (p ▷ q) (message-sizes m conn code a b h ∙ ap₂ ◌++◌ (sym e) (sym f))

module _ {o o₁ o₂ : Output} (m : Tables) (b name : List ℕ) where
  pub names_owner : (owner k : ℕ) (above : List ℕ) → name ≡ name_of m (x_name m (get_or b 1 0)) → get_or b 0 0 < 5 → owner ≡ x_owner m (get_or b 1 0) → k ≡ c_name m owner → above ≡ name_of m k
      → Put (at_line above) o o₁ → Put (at_line name) o₁ o₂ → Put (each (text_line (bytes_of "@")) (path_names m (diag_back b) (ltb (get_or b 0 0) 5))) o o₂
  names_owner owner k above e h p q r s t = put_as (s ▷ t) (path-owner m b name e owner k above h p q r)

  pub names_feature : (feature : List ℕ) → name ≡ name_of m (x_name m (get_or b 1 0)) → 5 ≤ get_or b 0 0 → feature ≡ name_of m (get_or b 2 0)
      → Put (at_line name) o o₁ → Put (at_line feature) o₁ o₂ → Put (each (text_line (bytes_of "@")) (path_names m (diag_back b) (ltb (get_or b 0 0) 5))) o o₂
  names_feature feature e h p s t = put_as (s ▷ t) (path-feature m b name e feature h p)

-- a message by its code, but for the longest
pub ruleset message_steps = (message_none, message_endpoint, message_source, message_destination, message_sizes)

pub ruleset names_steps = (names_owner, names_feature)

-- what a text goes by that is printed from the front of the output on
pub ruleset printed_pieces = (all_fit, all-full, all-length)
