-- Reads one behind the other fill the front of a slice.
use Rattle.std.proofs.Common.{◌≡◌, ℕ, ◌+◌, ◌-◌, ◌≤◌, List, ◌++◌, Option, length, take, drop, sym, ap, ◌∙◌, subst, le_refl, drop_at, length-take-le}
use Rattle.std.proofs.lemmas.Slice.{take-put_mid_below}
use Rattle.std.specs.Io.KnownBytes.{Consumes}
use Rattle.std.proofs.KnownBytes.{Consumes-trans}
use borrow.Rule.Slice.PartMut.{put_mid, post_of}
use lib.Seq.{take-add, take-append-le}

-- the front of a slice whose part from a place on is written anew
front : (from more : ℕ) (l part : List ℕ) → from ≤ length l → more ≤ length part
    → take (from + more) (put_mid from (length l - from) l part) ≡ take from l ++ take more part
front from more l part within fits =
    let room = length l - from in
    let behind = part ++ post_of from room l in
    take-add from more (put_mid from room l part)
    ∙ ap (λ t. t ++ take more (drop from (put_mid from room l part))) (take-put_mid_below _ _ _ _ _ (le_refl _) within)
    ∙ ap (λ t. take from l ++ take more t) (drop_at (take from l) behind from (length-take-le from l within))
    ∙ ap (λ t. take from l ++ t) (take-append-le more part (post_of from room l) fits)

-- what is read behind the filled places stands behind them, and the reader has lost both
pub filled_on : (a b c : Option (List ℕ)) (from more : ℕ) (l part : List ℕ) → from ≤ length l → more ≤ length part
    → Consumes a b (take from l) → Consumes b c (take more part)
    → Consumes a c (take (from + more) (put_mid from (length l - from) l part))
filled_on a b c from more l part within fits before now =
    subst (Consumes a c) (sym (front from more l part within fits)) (Consumes-trans a b c _ _ before now)
