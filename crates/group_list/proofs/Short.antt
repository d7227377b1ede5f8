-- The lengths that composing relies on: no feature of a match has a prefix of more than ten names, and no name more than 63 bytes. Assumes nothing.
use mathlib.Core.Bool.{Bool, true, false, ◌&&◌}
use mathlib.Core.Path.{◌≡◌, sym, subst}
use mathlib.Core.List.{List, [], ◌∷◌}
use Prim.Native.Nat.{ℕ, suc, ◌+◌, ◌*◌, ◌/◌, ◌≤◌, ◌<◌}
use native.Mathlib.Omega.{arith}
use native.Mathlib.Decide.{dec_lt}
use lib.Dec.{T, leb, leb→le}
use lib.ListN.{length}
use Rattle.std.specs.Prelude.{Option, Some, None}
use Rattle.as5506.specs.Lists.{keep, first_of, up_to, all_of, same_bytes}
use Rattle.as5506.specs.Tables.{Tables, missing, present, Ref, ref, letter_n, letter_u, letter_e, count, name_in, x_count, source, destination, e_classifier, x_feat}
use Rattle.as5506.specs.Names.{Comparison, name_byte, good_name, key}
use Rattle.as5506.specs.Resolve.{Resolved, component_type, component_impl, group_type, unresolved}
use Rattle.as5506.specs.Groups.{Feature, Expansion, depth_limit, expand_feature_group, expand}
use Rattle.as5506.specs.GroupList.{is_group_feature, type_of, declared_group, asking_package, classifier_by, declared_by, typed_by, endpoint_by, endpoint, is_group_connection, end_component, GroupConnection, group_connection, group_connections, partner, Match, matches_by, matches}
use Rattle.as5506.specs.Refusals.{accepted}
use Rattle.as5506.proofs.Laws.{All, all-each, all-each-of, all_keep, all-mapped, and_left, and_right, past-name}
use Rattle.links.specs.Links.{link_of, nested_link, extends_link, inverse_link, links_to}
use Rattle.links.specs.Walk.{groups_in}
use Rattle.links.proofs.Tables.{links-linked}
use Rattle.links.proofs.Range.{expansion-short}
use Rattle.links.proofs.Walk.{linked}
use Rattle.tables.proofs.Facts.{facts}
use Rattle.group_names.specs.Pairs.{ShortNames}
use Rattle.group_names.proofs.Blocks.{Short}
use Rattle.group_list.proofs.Matches.{pair_by, pairs_of}

abbrev ShortFeature : Feature → Type 0
ShortFeature f = length f.prefix ≤ depth_limit

abbrev ShortGroup : Option Expansion → Type 0
ShortGroup None = Unit {0}
ShortGroup (Some x) = All ShortFeature x.features

abbrev ShortEnds : GroupConnection → Type 0
ShortEnds b = ShortGroup b.src_group × ShortGroup b.dst_group

-- ---- the tables of links that the definition gives: every expansion is one over them

module _ (m : Tables) where
  abbrev nested : List ℕ
  nested = links_to (nested_link m) (count m letter_e)

  abbrev extends : List ℕ
  extends = links_to (extends_link m) (count m letter_u)

  abbrev inverse : List ℕ
  inverse = links_to (inverse_link m) (count m letter_u)

-- ---- the groups of connections

module _ (m : Tables) (ok : T (accepted m)) where
  expand-short : (from name : ℕ) → All ShortFeature (expand m from name).features
  unfolding expand expand_feature_group
  expand-short from name =
      subst (λ (x : Expansion). All ShortFeature x.features) (linked m (nested m) (extends m) (inverse m) (links-linked m) ((facts m ok).few letter_u) (suc depth_limit) from (ref missing name missing) false [])
      (expansion-short (groups_in m.e (nested m) (extends m) (inverse m)) (link_of m from (ref missing name missing)) false)

  classifier-short : (b : Bool) (c : ℕ) (r : Ref) → ShortGroup (classifier_by b m c r)
  unfolding classifier_by
  classifier-short true c r = expand-short (asking_package m c r) r.type
  classifier-short false c r = tt

  declared-short : (c : ℕ) (e : Option ℕ) → ShortGroup (declared_by m c e)
  unfolding declared_by
  declared-short c None = tt
  declared-short c (Some e) = classifier-short (present (e_classifier m e).type) c (e_classifier m e)

  typed-short : (c : ℕ) (name : List ℕ) (d : Resolved) → ShortGroup (typed_by m c name d)
  unfolding typed_by
  typed-short c name (component_type t) = declared-short c (declared_group m t name)
  typed-short c name (component_impl i) = tt
  typed-short c name (group_type i) = tt
  typed-short c name unresolved = tt

  endpoint-by-short : (b : Bool) (c : ℕ) (name : List ℕ) → ShortGroup (endpoint_by b m c name)
  unfolding endpoint_by
  endpoint-by-short true c name = typed-short c name (type_of m c)
  endpoint-by-short false c name = tt

  endpoint-short : (c f : ℕ) → ShortGroup (endpoint m c f)
  unfolding endpoint
  endpoint-short c f = endpoint-by-short (is_group_feature m c (key m f)) c (key m f)

  connection-short : (x : ℕ) (a b : Option ℕ) → All ShortEnds (group_connection m x a b)
  unfolding group_connection
  connection-short x None b = tt
  connection-short x (Some a) None = tt
  connection-short x (Some a) (Some b) = ((endpoint-short a (x_feat m source x), endpoint-short b (x_feat m destination x)), tt)

  connections-short : (same : Comparison) → All ShortEnds (group_connections same m)
  unfolding group_connections
  connections-short same =
      let xs : List ℕ = keep (is_group_connection m) (up_to (x_count m)) in
      all-each-of ShortEnds (λ (x : ℕ). group_connection m x (end_component same m source x) (end_component same m destination x))
      (λ x. connection-short x (end_component same m source x) (end_component same m destination x)) xs

-- ---- their matches

abbrev ShortPartner : Option Feature → Type 0
ShortPartner None = Unit {0}
ShortPartner (Some d) = ShortFeature d

abbrev ShortMatch : Match → Type 0
ShortMatch p = ShortFeature p.feature × ShortPartner p.partner

first_short : (ds : List Feature) → All ShortFeature ds → ShortPartner (first_of ds)
first_short [] t = tt
first_short (d ∷ ds) t = t.0

module _ (m : Tables) where
  partner-short : (s : Feature) (ds : List Feature) → All ShortFeature ds → ShortPartner (partner m s ds)
  unfolding partner
  partner-short s ds t =
      let equal : Feature → Bool = λ d. same_bytes (key m s.name) (key m d.name) in
      first_short (keep equal ds) (all_keep ShortFeature ShortFeature equal (λ d u h. h) ds t)

  matches-by-short : (b : GroupConnection) (s d : Option Expansion) → ShortGroup s → ShortGroup d → All ShortMatch (matches_by m b s d)
  unfolding matches_by
  matches-by-short b None d t u = tt
  matches-by-short b (Some s) None t u = tt
  matches-by-short b (Some s) (Some d) t u =
      all-mapped ShortFeature ShortMatch (λ (f : Feature). record { connection = b; feature = f; partner = partner m f d.features })
      (λ f h. (h, partner-short f d.features u)) s.features t

  matches-short : (bs : List GroupConnection) → All ShortEnds bs → All ShortMatch (matches m bs)
  unfolding matches
  matches-short bs t =
      all-each ShortEnds ShortMatch (λ (b : GroupConnection). matches_by m b b.src_group b.dst_group) (λ b h. matches-by-short b b.src_group b.dst_group h.0 h.1) bs t

-- ---- those that have a partner

pair-short : (b : GroupConnection) (s : Feature) (d : Option Feature) → ShortFeature s → ShortPartner d → All Short (pair_by b s d)
unfolding pair_by
pair-short b s None h u = tt
pair-short b s (Some d) h u = ((h, u), tt)

pub pairs-short : (same : Comparison) (m : Tables) → T (accepted m) → All Short (pairs_of (matches m (group_connections same m)))
unfolding pairs_of
pairs-short same m ok =
    all-each ShortMatch Short (λ (p : Match). pair_by p.connection p.feature p.partner) (λ p h. pair-short p.connection p.feature p.partner h.0 h.1) (matches m (group_connections same m))
    (matches-short m (group_connections same m) (connections-short m ok same))

-- ---- names

good_length : (s : List ℕ) → T (good_name s) → length s ≤ 63
unfolding good_name
good_length s t = leb→le (length s) 63 (and_left (leb (length s) 63) (all_of name_byte s) (and_right (leb 1 (length s)) (leb (length s) 63 && all_of name_byte s) t))

pub names-short : (m : Tables) → T (accepted m) → ShortNames m
names-short m ok k = go (dec_lt k (count m letter_n))
  where
    go : Dec (k < count m letter_n) → length (name_in m.bytes m.n k) ≤ 63
    go (yes h) = good_length (name_in m.bytes m.n k) ((facts m ok).name-good k h)
    go (no h) = subst (λ (s : List ℕ). length s ≤ 63) (sym (past-name m k (omega (arith, h)))) (omega arith)
