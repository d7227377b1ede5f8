-- What a call that prints a part of a text leaves in the output. Assumes nothing.
use Rattle.std.specs.Prelude.{◌≡◌, List, ℕ, Some}
use Rattle.std.specs.Borrow.{MutBor}
use Rattle.lent.specs.Append.{Filled, filled, append_all, together}
use Rattle.output.specs.declared.Output.{Output}

-- the bytes, and how much of them is used
abbrev pub output_of : Output → Filled ℕ
output_of out = filled out.bytes.now out.used

-- nothing is printed yet into the bytes that are lent
pub record Begins (lent : MutBor (List ℕ)) (out : Output) : Type 0 where
  pub same : out.bytes.ghost_name ≡ lent.ghost_name
  pub now : out.bytes.now ≡ lent.now
  pub used : out.used ≡ Some 0

-- a text t is printed behind what is used of an output, in pieces of which each stands there whole or, where it finds no room, not at all
pub record Put (t : List ℕ) (out out' : Output) : Type 0 where
  pub same : out'.bytes.ghost_name ≡ out.bytes.ghost_name
  pub pieces : List (List ℕ)
  pub text : together pieces ≡ t
  pub holds : output_of out' ≡ append_all pieces (output_of out)
