-- Laws of the printed list for callers: the list of the definition is the one that is printed, it asks for four of the tables only, and what the listings'
-- outputs hold is what blocks of them hold. Assumes nothing.
use mathlib.Core.Bool.{Bool, true, false}
use mathlib.Core.Path.{◌≡◌, refl, ap, ap₂}
use mathlib.Core.List.{List, [], ◌∷◌, ◌++◌, map}
use Prim.Native.Nat.{ℕ, zero, suc, ◌≤◌}
use native.Mathlib.Omega.{arith}
use lib.Dec.{ltb}
use lib.ListN.{length, take, drop, length-map}
use Rattle.std.specs.Simd.{first_chunks}
use Rattle.as5506.specs.Lists.{each, bytes_of}
use Rattle.as5506.specs.Tables.{Tables, name_of, x_name}
use Rattle.as5506.specs.Answers.{Refusal, told}
use Rattle.as5506.specs.Rows.{Row, Diag}
use Rattle.as5506.specs.Tracing.{shown}
use Rattle.as5506.specs.Listing.{BothLists}
use Rattle.as5506.specs.Layout.{row_numbers, diag_numbers, row_back, rows_back, group_back, group_rows_back, names_behind, diag_back, diags_back}
use Rattle.as5506.specs.Text.{message, row_text, text_line, path_names, diag_text, number_line, list_text, refusal_text}
use Rattle.as5506.proofs.Laws.{all-of, each_same, each_map}
use Rattle.lent.specs.Model.{wiring_of}
use Rattle.text.specs.Printing.{group_rows, traced_text, diagnostic_text, list_of, refusal_of}

pub list-printed : (m : Tables) (b : BothLists) → list_text m b ≡ list_of m (map (shown m) b.traced.rows) b.group.rows b.traced.diags b.group.diags
unfolding list_text list_of
list-printed m b = rw (each_map row_text (shown m) b.traced.rows, length-map b.traced.rows (shown m))

pub refusal-printed : (r : Refusal) → refusal_text r ≡ refusal_of (told r)
unfolding refusal_text refusal_of
refusal-printed r = refl

-- ---- of the tables only names, components and connections are asked for

message-same : (m : Tables) (conn : List ℕ) (code a b : ℕ) → message m conn code a b ≡ message (wiring_of m) conn code a b
unfolding message
message-same m conn zero a b = refl
message-same m conn (suc zero) a b = refl
message-same m conn (suc (suc zero)) a b = refl
message-same m conn (suc (suc (suc zero))) a b = refl
message-same m conn (suc (suc (suc (suc zero)))) a b = refl
message-same m conn (suc (suc (suc (suc (suc k))))) a b = refl

paths-same : (m : Tables) (d : Diag) (b : Bool) → path_names m d b ≡ path_names (wiring_of m) d b
unfolding path_names
paths-same m d true = refl
paths-same m d false = refl

diag-same : (m : Tables) (d : Diag) → diag_text m d ≡ diag_text (wiring_of m) d
unfolding diag_text
diag-same m d =
    ap₂
    (λ (s : List ℕ) (l : List (List ℕ)). number_line (bytes_of "D") (d.code ∷ d.conn ∷ d.one ∷ d.two ∷ []) ++ text_line (bytes_of "!") s ++ each (text_line (bytes_of "@")) l)
    (message-same m (name_of m (x_name m d.conn)) d.code d.one d.two)
    (paths-same m d (ltb d.code 5))

diags-same : (m : Tables) (l : List Diag) → each (diag_text m) l ≡ each (diag_text (wiring_of m)) l
diags-same m l = each_same (diag_text m) (diag_text (wiring_of m)) l (all-of (λ d. diag_text m d ≡ diag_text (wiring_of m) d) (diag-same m) l)

pub list_same : (m : Tables) (traced group : List Row) (diags group_diags : List Diag) → list_of m traced group diags group_diags ≡ list_of (wiring_of m) traced group diags group_diags
unfolding list_of
list_same m traced group diags group_diags = rw (diags-same m diags, diags-same m group_diags)

row-same : (m : Tables) (b : List ℕ) → row_back m b ≡ row_back (wiring_of m) b
unfolding row_back
row-same m b = refl

pub traced-same : (m : Tables) (count : ℕ) (out : List ℕ) → rows_back m count out ≡ rows_back (wiring_of m) count out
unfolding rows_back
traced-same m zero out = refl
traced-same m (suc k) out = ap₂ (λ (r : Row) (l : List Row). r ∷ l) (row-same m (take row_numbers out)) (traced-same m k (drop row_numbers out))

-- ---- the first so many blocks of an output

pub rows-blocks : (m : Tables) (count : ℕ) (out : List ℕ) → rows_back m count out ≡ map (row_back m) (first_chunks row_numbers count out)
unfolding rows_back
rows-blocks m zero out = refl
rows-blocks m (suc k) out = ap (λ (l : List Row). row_back m (take row_numbers out) ∷ l) (rows-blocks m k (drop row_numbers out))

pub group-blocks : (count : ℕ) (out names : List ℕ) → group_rows_back count out names ≡ group_rows (first_chunks row_numbers count out) names
unfolding group_rows_back group_rows
group-blocks zero out names = refl
group-blocks (suc k) out names =
    ap (λ (l : List Row). group_back (take row_numbers out) names ∷ l) (group-blocks k (drop row_numbers out) (names_behind (take row_numbers out) names))

pub diags-blocks : (count : ℕ) (out : List ℕ) → diags_back count out ≡ map diag_back (first_chunks diag_numbers count out)
unfolding diags_back
diags-blocks zero out = refl
diags-blocks (suc k) out = ap (λ (l : List Diag). diag_back (take diag_numbers out) ∷ l) (diags-blocks k (drop diag_numbers out))

pub first-of : (size count all : ℕ) (out : List ℕ) → count ≤ all → take count (first_chunks size all out) ≡ first_chunks size count out
first-of size zero all out h = refl
first-of size (suc k) zero out h = absurd (omega (arith, h))
first-of size (suc k) (suc n) out h = ap (λ (l : List (List ℕ)). take size out ∷ l) (first-of size k n (drop size out) (omega (arith, h)))

-- ---- the pieces that texts are printed in

group-count : (rows : List (List ℕ)) (names : List ℕ) → length (group_rows rows names) ≡ length rows
unfolding group_rows
group-count [] names = refl
group-count (b ∷ bs) names = ap suc (group-count bs (names_behind b names))

pub list-pieces : (m : Tables) (traced group : List (List ℕ)) (names : List ℕ) (diags group_diags : List (List ℕ))
    → list_of m (map (row_back m) traced) (group_rows group names) (map diag_back diags) (map diag_back group_diags)
    ≡ each (traced_text m) traced ++ each row_text (group_rows group names)
    ++ each (diagnostic_text m) diags ++ each (diagnostic_text m) group_diags ++ number_line (bytes_of "Z") (length traced ∷ length group ∷ [])
unfolding list_of traced_text diagnostic_text
list-pieces m traced group names diags group_diags =
    rw (length-map traced (row_back m), group-count group names, each_map row_text (row_back m) traced, each_map (diag_text m) diag_back diags, each_map (diag_text m) diag_back group_diags)
