-- The blocks of features, one behind the other, as the output of a walk that writes them all. Assumes nothing.
use mathlib.Core.Path.{◌≡◌, refl, ap, ◌∙◌}
use mathlib.Core.List.{List, [], ◌∷◌, map}
use Rattle.std.specs.Prelude.{Some}
use Rattle.as5506.specs.Lists.{each}
use Rattle.as5506.specs.Tables.{Tables}
use Rattle.as5506.specs.Groups.{Feature}
use Rattle.as5506.specs.Layout.{feature_block}
use Rattle.as5506.proofs.Laws.{each_map}
use Rattle.lent.specs.Append.{filled, append_all}
use Rattle.lent.specs.Printed.{Printed}
use Rattle.lent.proofs.Pieces.{printed-by}
use Rattle.sink.specs.declared.Purpose.TheVariants.{All}
use Rattle.sink.specs.Take.{Held, taken}
use Rattle.group_walk.specs.Run.{take_all}

all-written : (m : Tables) (fs : List Feature) (h : Held) → (take_all (taken All m) fs h).out ≡ append_all (map feature_block fs) h.out
unfolding take_all taken append_all
all-written m [] h = refl
all-written m (f ∷ fs) h = all-written m fs (taken All m f h)

-- t is what it carries when it has taken them, from h on, whose output was empty
pub features-printed : (m : Tables) (fs : List Feature) (t h : Held) → t ≡ take_all (taken All m) fs h → h.out.used ≡ Some 0
    → Printed (each feature_block fs) h.out.holds t.out.used t.out.holds
features-printed m fs t h e z =
    printed-by (map feature_block fs) h.out.holds t.out.holds t.out.used (each feature_block fs) (each_map _ feature_block fs)
    (ap (λ (a : Held). a.out) e ∙ all-written m fs h ∙ ap (λ k. append_all (map feature_block fs) (filled h.out.holds k)) z)
