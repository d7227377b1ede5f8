-- What group connections leave in the outputs of matches and of diagnostics. Assumes nothing.
use Rattle.std.specs.Prelude.{Bool, true, false, ◌||◌, ◌≡◌, List, [], ◌∷◌, map, ℕ, suc, Some, None, Option}
use Rattle.as5506.specs.Lists.{each, when}
use Rattle.as5506.specs.Tables.{Tables, source, destination}
use Rattle.as5506.specs.Names.{Comparison}
use Rattle.as5506.specs.Groups.{Feature, Expansion, depth_limit}
use Rattle.as5506.specs.GroupList.{is_group_connection, end_component, GroupConnection, group_connection, group_connections, group_overrun, Match, matches_by, diags_matched}
use Rattle.as5506.specs.Layout.{feature_block, diag_block}
use Rattle.lent.specs.Append.{Filled, filled, append_all}
use Rattle.links.specs.Walk.{Groups, visit_link}
use Rattle.sink.specs.declared.Tally.{Tally}
use Rattle.sink.specs.Take.{match_block}

-- the expansion of the group that a link means, if there is one
unfoldable pub group_at : Groups → Option ℕ → Option Expansion
group_at g (Some to) = Some (visit_link g (suc depth_limit) to false [])
group_at g None = None

-- a group connection, by its X row, its components and their groups
abbrev pub between : ℕ → ℕ → ℕ → Option Expansion → Option Expansion → GroupConnection
between conn src dst s d = record { conn = conn; src = src; dst = dst; src_group = s; dst_group = d }

-- a match, until its names are composed
unfoldable pub match_piece : GroupConnection → Feature → Option Feature → List (List ℕ)
match_piece b s None = []
match_piece b s (Some d) = match_block b.conn b.src b.dst (feature_block s) (feature_block d) ∷ []

unfoldable pub match_pieces : List Match → List (List ℕ)
match_pieces ms = each (λ p. match_piece p.connection p.feature p.partner) ms

unfoldable pub note_pieces : List Match → List (List ℕ)
note_pieces ms = map diag_block (diags_matched ms)

-- both outputs; or an end has too many visits, whatever they hold
pub data Lists : Type 0 where
  over : Lists
  lists : Filled ℕ → Filled ℕ → Lists

unfoldable pub after_by : Bool → List Match → Filled ℕ → Filled ℕ → Lists
after_by true ms rows notes = over
after_by false ms rows notes = lists (append_all (match_pieces ms) rows) (append_all (note_pieces ms) notes)

-- a connection
unfoldable pub after : Tables → GroupConnection → Lists → Lists
after m b over = over
after m b (lists rows notes) = after_by (group_overrun b.src_group || group_overrun b.dst_group) (matches_by m b b.src_group b.dst_group) rows notes

-- connections, one after the other
unfoldable pub after_all : Tables → List GroupConnection → Lists → Lists
after_all m [] l = l
after_all m (b ∷ bs) l = after_all m bs (after m b l)

-- the connection of X row x, if it is a group connection and its components are found
unfoldable pub connection_at : Comparison → Tables → ℕ → List GroupConnection
connection_at same m x = group_connection m x (end_component same m source x) (end_component same m destination x)

unfoldable pub connections_at : Comparison → Tables → ℕ → List GroupConnection
connections_at same m x = each (connection_at same m) (when (is_group_connection m x) x)

-- what an answer tells, with what the slices hold
unfoldable pub lists_of : Option Tally → List ℕ → List ℕ → Lists
lists_of None rows notes = over
lists_of (Some t) rows notes = lists (filled rows t.used) (filled notes t.noted)

-- what matching the groups of all connections of the tables m answers, and leaves in the outputs
abbrev pub MatchedInto : Comparison → Tables → List ℕ → List ℕ → Option Tally → List ℕ → List ℕ → Type 0
MatchedInto same m rows notes z rows' notes' = lists_of z rows' notes' ≡ after_all m (group_connections same m) (lists (filled rows (Some 0)) (filled notes (Some 0)))
