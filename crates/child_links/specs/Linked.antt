-- A link table that is filled, and what the call that fills it answers. Assumes nothing.
use Rattle.std.specs.Prelude.{Bool, true, false, ◌≡◌, List, ℕ, ◌<◌, T, eqb, length, get_or, Option, None, Some, Ok}
use Rattle.std.specs.Option.{ForSome}
use Rattle.as5506.specs.Lists.{padded}
use Rattle.as5506.specs.Tables.{Tables, missing, c_count}
use Rattle.as5506.specs.Refusals.{accepted}
use Rattle.as5506.specs.Links.{link_table}
use Rattle.as5506.specs.Listing.{faults_linked}
use Rattle.as5506.specs.Layout.{links_in}
use Rattle.tables.specs.Answer.{Checked, checked}

-- t is the link table of the accepted tables m, with zeros behind it
pub record Linked (m : Tables) (t : List ℕ) : Type 0 where
  pub ok : T (accepted m)
  pub filled : t ≡ padded (length t) (link_table m)

-- what stands at a place of a link table
abbrev pub link_by : Bool → ℕ → Option ℕ
link_by true v = None
link_by false v = Some v

abbrev pub link_at : List ℕ → ℕ → Option ℕ
link_at t k = link_by (eqb (get_or t k missing) missing) (get_or t k missing)

-- a component that is told of is a row of C
abbrev pub Inside : Tables → Option ℕ → Type 0
Inside m q = ForSome q (λ i. i < c_count m)

-- THE CONTRACT: of the tables m and a link table t, the call answers z and leaves t'
pub record LinkedInto (m : Tables) (t : List ℕ) (z : Checked) (t' : List ℕ) : Type 0 where
  pub answer : z ≡ checked (faults_linked (links_in (length t)) m)
  pub size : length t' ≡ length t
  pub linked : z ≡ Ok tt → Linked m t'
