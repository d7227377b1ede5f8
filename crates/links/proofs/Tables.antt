-- The tables of links, read by row. Assumes nothing.
use mathlib.Core.Path.{◌≡◌, ap, ◌∙◌}
use mathlib.Core.List.{List}
use Prim.Native.Nat.{ℕ, ◌≤◌, ◌<◌}
use native.Mathlib.Omega.{arith}
use lib.ListN.{length, get_or, get_or-append, length-map}
use lib.Seq.{sets, sets-eq}
use Rattle.std.proofs.lemmas.List.{get_or-map}
use Rattle.as5506.specs.Lists.{up_to}
use Rattle.as5506.specs.Tables.{Tables, letter_u, letter_e, count}
use Rattle.as5506.proofs.Laws.{up_to-length, up_to-entry}
use Rattle.links.specs.Links.{extends_link, inverse_link, nested_link, links_to, LinkedInto, Linked, LinksFit}

-- ---- one table

module _ (link : ℕ → ℕ) where
  links-length : (n : ℕ) → length (links_to link n) ≡ n
  links-length n = length-map (up_to n) link ∙ up_to-length n

  row-link : (n j : ℕ) → j < n → get_or (links_to link n) j 0 ≡ link j
  row-link n j h = get_or-map link (up_to n) j 0 0 (omega (arith, up_to-length n, h)) ∙ ap link (up_to-entry n j 0 h)

  -- written into a table that has room for them
  into-link : (n : ℕ) (table table' : List ℕ) → n ≤ length table → table' ≡ sets table 0 (links_to link n) → (j : ℕ) → j < n → get_or table' j 0 ≡ link j
  into-link n table table' room e j h =
      let size : length (links_to link n) ≡ n = links-length n in
      ap (λ (t : List ℕ). get_or t j 0) (e ∙ sets-eq (links_to link n) table 0 (omega (arith, size, room)))
      ∙ get_or-append (links_to link n) _ 0 j (omega (arith, size, h)) ∙ row-link n j h

-- ---- all three

module _ (m : Tables) where
  -- the tables that the definition gives
  pub links-linked : Linked m (links_to (nested_link m) (count m letter_e)) (links_to (extends_link m) (count m letter_u)) (links_to (inverse_link m) (count m letter_u))
  links-linked =
      record {
        of-nested = row-link (nested_link m) (count m letter_e);
        of-extends = row-link (extends_link m) (count m letter_u);
        of-inverse = row-link (inverse_link m) (count m letter_u);
      }

  -- those that are written
  pub into-linked : (nested extends inverse nested' extends' inverse' : List ℕ) → LinksFit m.u m.e nested extends inverse
      → LinkedInto m nested extends inverse nested' extends' inverse' → Linked m nested' extends' inverse'
  into-linked nested extends inverse nested' extends' inverse' fit w =
      record {
        of-nested = into-link (nested_link m) (count m letter_e) nested nested' fit.fits-nested w.in-nested;
        of-extends = into-link (extends_link m) (count m letter_u) extends extends' fit.fits-extends w.in-extends;
        of-inverse = into-link (inverse_link m) (count m letter_u) inverse inverse' fit.fits-inverse w.in-inverse;
      }
