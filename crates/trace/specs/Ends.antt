-- What the tracer writes: the rows of chains that go on behind a path. Assumes nothing.
use Rattle.std.specs.Prelude.{List, [], ◌∷◌, ◌++◌, map, ℕ, ◌+◌, ◌≤◌, length}
use Rattle.as5506.specs.Lists.{each}
use Rattle.as5506.specs.Tables.{Tables, source, destination, x_kind}
use Rattle.as5506.specs.Tables.{Side as TheSide}
use Rattle.as5506.specs.Names.{Comparison}
use Rattle.as5506.specs.Tracing.{Chain as TheEnd, Traced, append_new, chains, largest_limit}
use Rattle.columns.specs.declared.Side.{Side}
use Rattle.columns.specs.declared.Side.TheVariants.{Source, Destination}
use Rattle.trace.specs.declared.end.End.{End}

-- "the path handed down for 65": a connection and the steps of one chain
abbrev pub chain_places : ℕ
chain_places = 1 + largest_limit

-- the end at feature f of component c, over the connections p
abbrev pub the_end : ℕ → ℕ → List ℕ → TheEnd
the_end c f p = record { comp = c; feat = f; path = p }

-- the end that a value of the code stands for
abbrev pub end_of : End → TheEnd
end_of e = the_end e.component e.feature e.path

-- a chain behind the connections p
abbrev pub behind : List ℕ → TheEnd → TheEnd
behind p e = the_end e.comp e.feat (p ++ e.path)

-- the row of connection x from s to d. The path of s begins with x here (the definition's row_of puts it there)
unfoldable pub row_along : Tables → ℕ → TheEnd → TheEnd → Traced
row_along m x s d =
    record { conn = x; kind = x_kind m x; src = s.comp; dst = d.comp; src_feat = s.feat; dst_feat = d.feat; path = append_new s.path d.path }

-- the rows of a chain that has ended at e: towards the source, with every destination chain of at most k steps behind o; towards the
-- destination, with the source end o
unfoldable pub rows_at_end : Comparison → Tables → TheSide → ℕ → ℕ → TheEnd → TheEnd → List Traced
rows_at_end same m source x k o e = map (λ d. row_along m x e (behind o.path d)) (chains same m destination k o.comp o.feat)
rows_at_end same m destination x k o e = row_along m x o e ∷ []

-- the rows of the chains es behind the connections p
unfoldable pub rows_behind : Comparison → Tables → TheSide → ℕ → ℕ → TheEnd → List ℕ → List TheEnd → List Traced
rows_behind same m s x k o p es = each (λ e. rows_at_end same m s x k o (behind p e)) es

-- that a row's path fits: of the destination's end, whichever it is, the connections so far and the steps that go on are no more than the largest limit
abbrev pub Fits : Side → End → End → Type 0
Fits Source here other = length other.path + other.left ≤ largest_limit
Fits Destination here other = length here.path + here.left ≤ largest_limit
