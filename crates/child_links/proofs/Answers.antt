-- What the answer of the call that checks tables and links their components tells a caller. Assumes nothing.
use mathlib.Core.Path.{◌≡◌, sym, ap, ◌∙◌, subst}
use mathlib.Core.List.{List, [], ◌∷◌}
use Prim.Native.Nat.{ℕ, ◌≤◌}
use lib.Dec.{T}
use lib.ListN.{length}
use Rattle.std.specs.Prelude.{Ok, Err}
use Rattle.as5506.specs.declared.Refusal.{Refusal as Told}
use Rattle.as5506.specs.Tables.{Tables, Letter, count}
use Rattle.as5506.specs.Answers.{Refusal, Answer, given, refused, told}
use Rattle.as5506.specs.Lists.{padded}
use Rattle.as5506.specs.Links.{link_table, WalkGivesChildren}
use Rattle.as5506.specs.Listing.{faults_linked}
use Rattle.as5506.specs.Layout.{links_in, links_of, output}
use Rattle.as5506.proofs.Answers.{is_given}
use Rattle.as5506.proofs.Links.{walk-gives-children}
use Rattle.tables.proofs.Facts.{facts}
use Rattle.tables.specs.Answer.{Checked}
use Rattle.tables.proofs.Answers.{none-is, refused-is}
use Rattle.child_links.specs.Linked.{Linked, LinkedInto}

module _ (m : Tables) (t : List ℕ) (z : Checked) (t' : List ℕ) (w : LinkedInto m t z t') where
  -- nothing refuses the tables or the link table
  pub accepted-is : z ≡ Ok tt → faults_linked (links_in (length t)) m ≡ []
  accepted-is f = none-is (faults_linked (links_in (length t)) m) z w.answer f

  -- whatever goes on where there is no fault, and else is refused for the first, is refused so
  pub refused-on : {A : Type 0} (on : List Refusal → Answer A) → ((x : Refusal) (fs : List Refusal) → on (x ∷ fs) ≡ refused x)
      → (r : Told) → z ≡ Err r → (x : Refusal) × (on (faults_linked (links_in (length t)) m) ≡ refused x) × (r ≡ told x)
  refused-on on first r f = let fs = refused-is (faults_linked (links_in (length t)) m) z w.answer r f in (fs.0, ap on fs.2 ∙ first fs.0 fs.1, fs.3)

-- ---- the links that a listing hands back

module _ (m : Tables) (t : List ℕ) (h : Linked m t) where
  -- with an answer that is given they are what the definition has in an output of n numbers
  pub links-given : {A : Type 0} (a : Answer A) (n : ℕ) → T (is_given a) → length t ≡ n → t ≡ output n (links_of m) a
  links-given (given x) n g e = h.filled ∙ ap (λ (k : ℕ). padded k (link_table m)) e
  links-given (refused r) n g e = absurd g

  -- 02 (xiii): the walk along them gives the children by place
  pub links-walked : WalkGivesChildren m t
  links-walked = subst (WalkGivesChildren m) (sym h.filled) (walk-gives-children m h.ok (length t))

  -- and a tree has few rows
  pub few-linked : (l : Letter) → count m l ≤ 4096
  few-linked = (facts m h.ok).few
