-- `sheet::check_lines`: the answer of the lines that are left is the sheet's. Assumes nothing.
use Rattle.std.proofs.Common.{◌≡◌, ℕ, ◌+◌, ◌<◌, List, [], ◌∷◌, length, take, drop, refl, sym, ap, ◌∙◌, arith, add-one, zero-mul, length-drop}
use borrow.Author.Tests.{eqb-true, eqb-false}
use lib.Seq.{length-take-le}
use Rattle.std.specs.Prelude.{Ok, Err}
use Rattle.std.proofs.lemmas.Result.{err_from_is_err_and}
use Rattle.as5506.specs.Sheet.{ended, lines_of}
use Rattle.as5506.specs.Tables.{width}
use Rattle.as5506.proofs.Letters.{each-letter}
use Rattle.sheet.proofs.Check.{good, numbers-small, names-few, counted_none, seen_small, answer-end, answer-unended, answer-bad, answer-good}
use Rattle.sheet.proofs.Lines.{stop_of, no_lines, last_line, next-line}
use Rattle.sheet.proofs.Rows.{none-with, names-none}
use Rattle.sheet.specs.Steps.{lent_by, answer_from}
use Rattle.sheet.proofs.check_lines.Goals as goal
use Rattle.sheet.proofs.check_lines.Goals.{In-Some}

pub loop-rest-init : goal.loop-rest-init
loop-rest-init c =
    record {
      before = [];
      counted = counted_none _ refl refl (each-letter _ refl refl refl refl refl refl refl refl refl refl refl refl);
      names = omega (arith, names-none);
      few = λ l. rw (none-with l) (omega (arith, zero-mul (width l)));
      placed = omega arith;
      answer = refl;
    }

pub returns-in_default : goal.returns-in_default
returns-in_default c =
    let l = c.loop-rest in
    ap Err c.at_line.ensures
    ∙ sym (ap (answer_from _ l.invariant.before l.place) (last_line l.rest.now (omega (arith, eqb-false (length l.rest.now) 0 (sym c.loop-rest-test.ensures))) c.in_default.ensures) ∙ answer-unended _ l.invariant.before l.place _ [])
    ∙ l.invariant.answer

-- the first line of what is left
first : (c : In-Some) →
    let s = c.loop-rest.rest.now in
    (stop_of s < length s) × (c.in-Some.line.now ≡ take (stop_of s) s) × (c.in-Some.behind.now ≡ drop (stop_of s + 1) s)
first c = c.in-Some.ensures

-- the answer from there on, by that line
by_first : (c : In-Some) →
    let l = c.loop-rest in
    answer_from (lent_by c.args.room.now) l.invariant.before l.place (ended c.in-Some.line.now ∷ lines_of (drop (stop_of l.rest.now + 1) l.rest.now))
    ≡ answer_from (lent_by c.args.room.now) [] 1 (lines_of c.args.sheet.now)
by_first c =
    let l = c.loop-rest in
    let h = first c in
    ap (λ (t : List ℕ). answer_from (lent_by c.args.room.now) l.invariant.before l.place (ended t ∷ lines_of (drop (stop_of l.rest.now + 1) l.rest.now))) h.1
    ∙ sym (ap (answer_from (lent_by c.args.room.now) l.invariant.before l.place) (next-line l.rest.now h.0)) ∙ l.invariant.answer

pub returns-in_err-check_line : goal.returns-in_err-check_line
returns-in_err-check_line c =
    let y = err_from_is_err_and c.from_residual.result c.from_residual.ensures.1 in
    let l = c.loop-rest in
    y.1 ∙ ap Err y.2 ∙ sym (answer-bad _ l.invariant.before l.place _ _ _ (c.in_err-check_line.ensures l.invariant.before l.invariant.counted)) ∙ by_first (goal.at.returns-in_err-check_line c).In-Some

pub check_line-requires : goal.check_line-requires
check_line-requires c =
    let l = c.loop-rest in
    let s = l.rest.now in
    let h = first (goal.at.check_line-requires c).In-Some in (
      omega (arith, ap length h.1, length-take-le (stop_of s) s (omega (arith, h.0)), h.0, l.invariant.names, c.requires),
      seen_small l.seen l.invariant.before (length c.args.sheet.now) c.requires l.invariant.counted (omega (arith, l.invariant.names)) (λ l'. omega (arith, l.invariant.few l')),
    )

pub loop-rest-preserved : goal.loop-rest-preserved
loop-rest-preserved c =
    let l = c.loop-rest in
    let s = l.rest.now in
    let h = first (goal.at.loop-rest-preserved c).In-Some in
    let line = c.in-Some.line.now in
    let good-line = c.in_ok-check_line.ensures l.invariant.before l.invariant.counted in
    let g = good _ l.invariant.before line good-line.0 in
    let n : length line ≡ stop_of s = ap length h.1 ∙ length-take-le (stop_of s) s (omega (arith, h.0)) in
    let m : length c.in-Some.behind.now + stop_of s + 1 ≡ length s = omega (arith, ap length h.2, length-drop (stop_of s + 1) s, h.0) in
    record {
      before = line ∷ l.invariant.before;
      counted = good-line.1;
      names = omega (arith, l.invariant.names, names-few line l.invariant.before g.letter g.known, n, m);
      few = λ k. omega (arith, numbers-small _ l.invariant.before line g k, l.invariant.few k, n, m);
      placed = omega (arith, l.invariant.placed, m);
      answer = rw (add-one l.place, h.2) (sym (answer-good _ l.invariant.before l.place line _ good-line.0) ∙ by_first (goal.at.loop-rest-preserved c).In-Some);
    }

pub returns : goal.returns
returns c =
    let l = c.loop-rest in
    ap Ok (c.counted.ensures l.invariant.before l.invariant.counted)
    ∙ sym (ap (answer_from _ l.invariant.before l.place) (no_lines l.rest.now (eqb-true (length l.rest.now) 0 (sym c.loop-rest-test.ensures))) ∙ answer-end _ l.invariant.before l.place)
    ∙ l.invariant.answer
