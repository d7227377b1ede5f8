-- `sheet::read_sheet`: the tables are cleared, the answer is the check's, and where it is no refusal every table is written from the front of zeros.
-- Assumes nothing.
use Rattle.std.proofs.Common.{◌≡◌, ◌≤◌, ◌<◌, List, ℕ, [], true, length, sym, ap, ◌∙◌, arith}
use Rattle.std.proofs.lemmas.List.Edits.{sets}
use Rattle.std.proofs.lemmas.Result.{err_from_is_err_and}
use Rattle.std.specs.Prelude.{Err}
use Rattle.as5506.specs.Columns.{rank, letter_count}
use Rattle.as5506.specs.Sheet.{Lent, lent_of, sheet_faults, lines_of, rows_read, tables_read, read_sheet}
use Rattle.as5506.specs.Tables.{Tables, tables_of, Letter, letter_n, letter_c, letter_f, letter_x, letter_p, letter_i, letter_t, letter_q, letter_u, letter_e, letter_r, letter_m, table}
use Rattle.as5506.proofs.Letters.{each-letter}
use Rattle.sheet.proofs.Letters.{rank_below}
use Rattle.sheet.proofs.Put.{left_on, left-fits, left-written}
use Rattle.sheet.proofs.Rows.{rows-table}
use Rattle.sheet.proofs.Whole.{sheet-short, sheet-in-order, lent_is, no-fault, refused-into, cleared-fits, cleared-bytes, read-into}
use Rattle.sheet.specs.Read.{sheet_read}
use Rattle.sheet.specs.Steps.{texts, in_order, Left}
use Rattle.sheet.proofs.read_sheet.Goals as goal
use Rattle.sheet.proofs.read_sheet.Goals.{After-clear_all, After-check_sheet, In_ok-counts, After-put_names-from_c, After-put_rows-from_f, After-put_rows-from_x, After-put_rows-from_p, After-put_rows-from_i, After-put_rows-from_t, After-put_rows-from_q, After-put_rows-from_u, After-put_rows-from_e, After-put_rows-from_r, After-put_rows-from_m}

-- ---- the tables as they are lent, and as they are cleared
abbrev lent : After-clear_all → Tables
lent c = let a = c.args in tables_of a.bytes.now a.n.now a.c.now a.f.now a.x.now a.p.now a.i.now a.t.now a.q.now a.u.now a.e.now a.r.now a.m.now

abbrev cleared : After-clear_all → Tables
cleared c = let l = c.clear_all.new in tables_of l.bytes l.n l.c l.f l.x l.p l.i l.t l.q l.u l.e l.r l.m

-- the answer is the definition's
answer : (c : After-check_sheet) → c.check_sheet.result ≡ sheet_read (read_sheet (lent_of (lent (goal.at.After-check_sheet c).After-clear_all)) c.args.sheet.now)
answer c = c.check_sheet.ensures ∙ ap (λ (l : Lent). sheet_read (read_sheet l c.args.sheet.now)) (lent_is (lent (goal.at.After-check_sheet c).After-clear_all))

-- no refusal: the sheet has no fault
faultless : (c : In_ok-counts) → sheet_faults (lent_of (lent (goal.at.In_ok-counts c).After-clear_all)) c.args.sheet.now ≡ []
faultless c = no-fault _ _ c.in_ok-counts.counts (sym (answer (goal.at.In_ok-counts c).After-check_sheet) ∙ c.in_ok-counts.was)

-- what is read fits the cleared tables
room : (c : In_ok-counts) (l : Letter) → length (table (tables_read (texts c.args.sheet.now)) l) ≤ length (table (cleared (goal.at.In_ok-counts c).After-clear_all) l)
room c = let d = (goal.at.In_ok-counts c).After-clear_all in cleared-fits (lent d) (cleared d) d.clear_all.ensures c.args.sheet.now _ (answer (goal.at.In_ok-counts c).After-check_sheet) (faultless c)

-- ---- what each pass leaves of the sheet
left_c : (c : After-put_names-from_c) → Left c.args.sheet.now 1 c.put_names-from_c.result.now
left_c c = c.put_names-from_c.ensures.0

left_f : (c : After-put_rows-from_f) → Left c.args.sheet.now 2 c.put_rows-from_f.result.now
left_f c = left_on _ _ _ 1 (left_c (goal.at.After-put_rows-from_f c).After-put_names-from_c) c.put_rows-from_f.ensures.0

left_x : (c : After-put_rows-from_x) → Left c.args.sheet.now 3 c.put_rows-from_x.result.now
left_x c = left_on _ _ _ 2 (left_f (goal.at.After-put_rows-from_x c).After-put_rows-from_f) c.put_rows-from_x.ensures.0

left_p : (c : After-put_rows-from_p) → Left c.args.sheet.now 4 c.put_rows-from_p.result.now
left_p c = left_on _ _ _ 3 (left_x (goal.at.After-put_rows-from_p c).After-put_rows-from_x) c.put_rows-from_p.ensures.0

left_i : (c : After-put_rows-from_i) → Left c.args.sheet.now 5 c.put_rows-from_i.result.now
left_i c = left_on _ _ _ 4 (left_p (goal.at.After-put_rows-from_i c).After-put_rows-from_p) c.put_rows-from_i.ensures.0

left_t : (c : After-put_rows-from_t) → Left c.args.sheet.now 6 c.put_rows-from_t.result.now
left_t c = left_on _ _ _ 5 (left_i (goal.at.After-put_rows-from_t c).After-put_rows-from_i) c.put_rows-from_t.ensures.0

left_q : (c : After-put_rows-from_q) → Left c.args.sheet.now 7 c.put_rows-from_q.result.now
left_q c = left_on _ _ _ 6 (left_t (goal.at.After-put_rows-from_q c).After-put_rows-from_t) c.put_rows-from_q.ensures.0

left_u : (c : After-put_rows-from_u) → Left c.args.sheet.now 8 c.put_rows-from_u.result.now
left_u c = left_on _ _ _ 7 (left_q (goal.at.After-put_rows-from_u c).After-put_rows-from_q) c.put_rows-from_u.ensures.0

left_e : (c : After-put_rows-from_e) → Left c.args.sheet.now 9 c.put_rows-from_e.result.now
left_e c = left_on _ _ _ 8 (left_u (goal.at.After-put_rows-from_e c).After-put_rows-from_u) c.put_rows-from_e.ensures.0

left_r : (c : After-put_rows-from_r) → Left c.args.sheet.now 10 c.put_rows-from_r.result.now
left_r c = left_on _ _ _ 9 (left_e (goal.at.After-put_rows-from_r c).After-put_rows-from_e) c.put_rows-from_r.ensures.0

left_m : (c : After-put_rows-from_m) → Left c.args.sheet.now 11 c.put_rows-from_m.result.now
left_m c = left_on _ _ _ 10 (left_r (goal.at.After-put_rows-from_m c).After-put_rows-from_r) c.put_rows-from_m.ensures.0

-- ---- the calls
pub put_names-from_c-requires : goal.put_names-from_c-requires
unfolding tables_read
put_names-from_c-requires c =
    let r = (goal.at.put_names-from_c-requires c).In_ok-counts in
    let d = (goal.at.In_ok-counts r).After-clear_all in (
      sheet-short _ _ (faultless r),
      sheet-in-order _ _ (faultless r),
      cleared-bytes (lent d) (cleared d) d.clear_all.ensures c.args.sheet.now _ (answer (goal.at.In_ok-counts r).After-check_sheet) (faultless r),
      room r letter_n,
    )

-- what the pass of the letter l asks of the rest r that it begins at
begins : (c : In_ok-counts) (l : Letter) (r : List ℕ) → 0 < rank l → Left c.args.sheet.now (rank l) r
    → (0 < rank l) × (rank l < letter_count) × (in_order (rank l) (lines_of r) ≡ true) × (length (rows_read l (texts r)) ≤ length (table (cleared (goal.at.In_ok-counts c).After-clear_all) l))
begins c l r p k = (p, rank_below l, k.order, left-fits _ _ l k _ (rw (← rows-table (texts c.args.sheet.now) l p) (room c l)))

pub put_rows-from_f-requires : goal.put_rows-from_f-requires
put_rows-from_f-requires c = let g = goal.at.put_rows-from_f-requires c in begins g.In_ok-counts letter_c _ (omega arith) (left_c g.After-put_names-from_c)

pub put_rows-from_x-requires : goal.put_rows-from_x-requires
put_rows-from_x-requires c = let g = goal.at.put_rows-from_x-requires c in begins g.In_ok-counts letter_f _ (omega arith) (left_f g.After-put_rows-from_f)

pub put_rows-from_p-requires : goal.put_rows-from_p-requires
put_rows-from_p-requires c = let g = goal.at.put_rows-from_p-requires c in begins g.In_ok-counts letter_x _ (omega arith) (left_x g.After-put_rows-from_x)

pub put_rows-from_i-requires : goal.put_rows-from_i-requires
put_rows-from_i-requires c = let g = goal.at.put_rows-from_i-requires c in begins g.In_ok-counts letter_p _ (omega arith) (left_p g.After-put_rows-from_p)

pub put_rows-from_t-requires : goal.put_rows-from_t-requires
put_rows-from_t-requires c = let g = goal.at.put_rows-from_t-requires c in begins g.In_ok-counts letter_i _ (omega arith) (left_i g.After-put_rows-from_i)

pub put_rows-from_q-requires : goal.put_rows-from_q-requires
put_rows-from_q-requires c = let g = goal.at.put_rows-from_q-requires c in begins g.In_ok-counts letter_t _ (omega arith) (left_t g.After-put_rows-from_t)

pub put_rows-from_u-requires : goal.put_rows-from_u-requires
put_rows-from_u-requires c = let g = goal.at.put_rows-from_u-requires c in begins g.In_ok-counts letter_q _ (omega arith) (left_q g.After-put_rows-from_q)

pub put_rows-from_e-requires : goal.put_rows-from_e-requires
put_rows-from_e-requires c = let g = goal.at.put_rows-from_e-requires c in begins g.In_ok-counts letter_u _ (omega arith) (left_u g.After-put_rows-from_u)

pub put_rows-from_r-requires : goal.put_rows-from_r-requires
put_rows-from_r-requires c = let g = goal.at.put_rows-from_r-requires c in begins g.In_ok-counts letter_e _ (omega arith) (left_e g.After-put_rows-from_e)

pub put_rows-from_m-requires : goal.put_rows-from_m-requires
put_rows-from_m-requires c = let g = goal.at.put_rows-from_m-requires c in begins g.In_ok-counts letter_r _ (omega arith) (left_r g.After-put_rows-from_r)

pub put_rows-requires : goal.put_rows-requires
put_rows-requires c = let g = goal.at.put_rows-requires c in begins g.In_ok-counts letter_m _ (omega arith) (left_m g.After-put_rows-from_m)

-- ---- the two ends
pub returns-in_err-counts : goal.returns-in_err-counts
returns-in_err-counts c =
    let g = (goal.at.returns-in_err-counts c).After-check_sheet in
    let d = (goal.at.After-check_sheet g).After-clear_all in
    let y = err_from_is_err_and c.from_residual.result c.from_residual.ensures.1 in
    let e = y.1 ∙ ap Err y.2 in
    refused-into (lent d) (cleared d) d.clear_all.ensures c.args.sheet.now _ (e ∙ sym c.in_err-counts.was ∙ answer g) _ e

pub returns : goal.returns
unfolding tables_read
returns c =
    let g = goal.at.returns c in
    let d = g.After-clear_all in
    let after = tables_of c.put_names-from_c.new.bytes c.put_names-from_c.new.n c.put_rows-from_f.new.table c.put_rows-from_x.new.table c.put_rows-from_p.new.table c.put_rows-from_i.new.table c.put_rows-from_t.new.table c.put_rows-from_q.new.table c.put_rows-from_u.new.table c.put_rows-from_e.new.table c.put_rows-from_r.new.table c.put_rows-from_m.new.table c.put_rows.new.table in
    read-into (lent d) (cleared d) d.clear_all.ensures c.args.sheet.now _ (sym c.in_ok-counts.was ∙ answer g.After-check_sheet) (faultless g.In_ok-counts) after c.put_names-from_c.ensures.1
    (each-letter (λ l. table after l ≡ sets (table (cleared d) l) 0 (table (tables_read (texts c.args.sheet.now)) l))
    c.put_names-from_c.ensures.2
    (left-written _ _ letter_c (left_c g.After-put_names-from_c) _ _ c.put_rows-from_f.ensures.1)
    (left-written _ _ letter_f (left_f g.After-put_rows-from_f) _ _ c.put_rows-from_x.ensures.1)
    (left-written _ _ letter_x (left_x g.After-put_rows-from_x) _ _ c.put_rows-from_p.ensures.1)
    (left-written _ _ letter_p (left_p g.After-put_rows-from_p) _ _ c.put_rows-from_i.ensures.1)
    (left-written _ _ letter_i (left_i g.After-put_rows-from_i) _ _ c.put_rows-from_t.ensures.1)
    (left-written _ _ letter_t (left_t g.After-put_rows-from_t) _ _ c.put_rows-from_q.ensures.1)
    (left-written _ _ letter_q (left_q g.After-put_rows-from_q) _ _ c.put_rows-from_u.ensures.1)
    (left-written _ _ letter_u (left_u g.After-put_rows-from_u) _ _ c.put_rows-from_e.ensures.1)
    (left-written _ _ letter_e (left_e g.After-put_rows-from_e) _ _ c.put_rows-from_r.ensures.1)
    (left-written _ _ letter_r (left_r g.After-put_rows-from_r) _ _ c.put_rows-from_m.ensures.1)
    (left-written _ _ letter_m (left_m g.After-put_rows-from_m) _ _ c.put_rows.ensures.1))
