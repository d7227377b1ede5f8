-- `on_sheet::on_sheet` meets its contract: of each slice as much is handed on as was read, and that is the definition's model. Assumes nothing.
use mathlib.Core.Path.{sym, subst, ◌∙◌}
use mathlib.Core.List.{List}
use Prim.Native.Nat.{ℕ}
use lib.ListN.{length, take}
use lib.Seq.{length-take-le}
use Rattle.as5506.specs.Tables.{tables_of, letter_n, letter_c, letter_f, letter_x, letter_p, letter_i, letter_t, letter_q, letter_u, letter_e, letter_r, letter_m}
use Rattle.shown.specs.Shown.{Shown}
use Rattle.on_sheet.specs.Tasks.{task_text}
use Rattle.on_sheet.proofs.Tables.{rows-within, bytes-within, text-read, text-refused}
use Rattle.on_sheet.proofs.on_sheet.Goals as goal

pub slice_bounds-bytes-end : goal.slice_bounds-bytes-end
slice_bounds-bytes-end c = bytes-within _ _ _ c.read_sheet.ensures _ c.in-Ok.is

pub slice_bounds-tables-end : goal.slice_bounds-tables-end
slice_bounds-tables-end c = sym (length-take-le _ _ (bytes-within _ _ _ c.read_sheet.ensures _ c.in-Ok.is))

pub rows-requires : goal.rows-requires
rows-requires c = rows-within _ _ _ c.read_sheet.ensures _ c.in-Ok.is letter_n

pub rows-requires-in-Ok : goal.rows-requires-in-Ok
rows-requires-in-Ok c = rows-within _ _ _ c.read_sheet.ensures _ c.in-Ok.is letter_c

pub rows-requires-in-Ok-2 : goal.rows-requires-in-Ok-2
rows-requires-in-Ok-2 c = rows-within _ _ _ c.read_sheet.ensures _ c.in-Ok.is letter_f

pub rows-requires-in-Ok-3 : goal.rows-requires-in-Ok-3
rows-requires-in-Ok-3 c = rows-within _ _ _ c.read_sheet.ensures _ c.in-Ok.is letter_x

pub rows-requires-in-Ok-4 : goal.rows-requires-in-Ok-4
rows-requires-in-Ok-4 c = rows-within _ _ _ c.read_sheet.ensures _ c.in-Ok.is letter_p

pub rows-requires-in-Ok-5 : goal.rows-requires-in-Ok-5
rows-requires-in-Ok-5 c = rows-within _ _ _ c.read_sheet.ensures _ c.in-Ok.is letter_i

pub rows-requires-in-Ok-6 : goal.rows-requires-in-Ok-6
rows-requires-in-Ok-6 c = rows-within _ _ _ c.read_sheet.ensures _ c.in-Ok.is letter_t

pub rows-requires-in-Ok-7 : goal.rows-requires-in-Ok-7
rows-requires-in-Ok-7 c = rows-within _ _ _ c.read_sheet.ensures _ c.in-Ok.is letter_q

pub rows-requires-in-Ok-8 : goal.rows-requires-in-Ok-8
rows-requires-in-Ok-8 c = rows-within _ _ _ c.read_sheet.ensures _ c.in-Ok.is letter_u

pub rows-requires-in-Ok-9 : goal.rows-requires-in-Ok-9
rows-requires-in-Ok-9 c = rows-within _ _ _ c.read_sheet.ensures _ c.in-Ok.is letter_e

pub rows-requires-in-Ok-10 : goal.rows-requires-in-Ok-10
rows-requires-in-Ok-10 c = rows-within _ _ _ c.read_sheet.ensures _ c.in-Ok.is letter_r

pub rows-requires-in-Ok-11 : goal.rows-requires-in-Ok-11
rows-requires-in-Ok-11 c = rows-within _ _ _ c.read_sheet.ensures _ c.in-Ok.is letter_m

pub returns-in-Err : goal.returns-in-Err
returns-in-Err c =
    subst (λ (t : List ℕ). Shown t c.args.text.now c.tell.result c.tell.new.text)
    (text-refused c.args.sheet.now _ _ c.read_sheet.ensures c.args.task (length c.args.text.now) _ c.in-Err.is) c.tell.ensures

pub returns-in-Ok : goal.returns-in-Ok
returns-in-Ok c =
    subst (λ (t : List ℕ). Shown t c.args.text.now c.do_task.result c.do_task.new.text)
    ((λ i. task_text c.args.task (length c.args.text.now)
    (tables_of (take c.in-Ok.k.bytes c.read_sheet.new.bytes) (c.rows.ensures i) (c.rows-in-Ok.ensures i) (c.rows-in-Ok-2.ensures i) (c.rows-in-Ok-3.ensures i)
    (c.rows-in-Ok-4.ensures i) (c.rows-in-Ok-5.ensures i) (c.rows-in-Ok-6.ensures i) (c.rows-in-Ok-7.ensures i) (c.rows-in-Ok-8.ensures i) (c.rows-in-Ok-9.ensures i)
    (c.rows-in-Ok-10.ensures i) (c.rows-in-Ok-11.ensures i)))
    ∙ text-read c.args.sheet.now _ _ c.read_sheet.ensures _ c.in-Ok.is c.args.task (length c.args.text.now)) c.do_task.ensures
