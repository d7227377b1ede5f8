-- The tables in slices that lie beside one another: those that C and Rust lend, and those that the reader fills. Assumes nothing.
use Rattle.std.specs.Prelude.{List, ℕ}
use Rattle.std.specs.Borrow.{Bor, MutBor}
use denote.Triple.Both.{Both}
use Rattle.as5506.specs.Tables.{Tables, tables_of}

-- The tables in the slices that an `ensures` names: `tables_at` as they are when the call begins; of a call that fills them, `tables_to_fill` as it
-- begins and `tables_left` as it leaves them.
abbrev pub Lent : Type 0
Lent = Bor (List ℕ)

abbrev pub tables_lent : (bytes n c f x p i t q u e r m : Lent) → Tables
tables_lent bytes n c f x p i t q u e r m =
    tables_of bytes.now n.now c.now f.now x.now p.now i.now t.now q.now u.now e.now r.now m.now

abbrev pub tables_at : (bytes n c f x p i t q u e r m : Both Lent Lent) → Tables
tables_at bytes n c f x p i t q u e r m =
    tables_lent bytes.entry n.entry c.entry f.entry x.entry p.entry i.entry t.entry q.entry u.entry e.entry r.entry m.entry

-- a table that a call fills
abbrev pub Filling : Type 0
Filling = MutBor (List ℕ)

abbrev pub tables_to_fill : (bytes n c f x p i t q u e r m : Both Filling Filling) → Tables
tables_to_fill bytes n c f x p i t q u e r m =
    tables_of bytes.entry.now n.entry.now c.entry.now f.entry.now x.entry.now p.entry.now i.entry.now t.entry.now q.entry.now u.entry.now e.entry.now r.entry.now m.entry.now

abbrev pub tables_left : (bytes n c f x p i t q u e r m : Both Filling Filling) → Tables
tables_left bytes n c f x p i t q u e r m =
    tables_of bytes.exit.now n.exit.now c.exit.now f.exit.now x.exit.now p.exit.now i.exit.now t.exit.now q.exit.now u.exit.now e.exit.now r.exit.now m.exit.now
