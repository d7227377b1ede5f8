-- Trials of the two listings: rows, diagnostics, rooms, lent outputs and text, over models in words. Assumes nothing.
use mathlib.Core.Bool.{true, false}
use mathlib.Core.List.{List, [], ◌∷◌, ◌++◌}
use Prim.Native.Nat.{ℕ, ◌+◌, ◌-◌, ◌*◌}
use Prim.Native.String.{String}
use lib.ListN.{length, replicate, set}
use Rattle.std.specs.Prelude.{Option, None, Some}
use Rattle.as5506.specs.Lists.{up_to, each, zeros, same_bytes, bytes_of}
use Rattle.as5506.specs.Tables.{Tables, missing, letter_c, letter_n, letter_p, letter_m}
use Rattle.as5506.specs.Names.{same_folded}
use Rattle.as5506.specs.Answers.{Refusal, refusal, nowhere, row}
use Rattle.as5506.specs.Groups.{Expansion}
use Rattle.as5506.specs.GroupList.{GroupConnection}
use Rattle.as5506.proofs.TrialForms.{Trial, fills_by, fills, lends, lists_by, lists, lists_folded, length_is, walks, traces_by, traces, traces_folded, groups, groups_folded, both_by, both, both_folded, joins, grows, counts_modes, selects, modes_prints, mode_prints, text, model, change}

-- a model in words, and what is printed
abbrev prints-of : List String → List String → Trial
prints-of ls list = lists (model ls) list

-- ---- steps and chains

-- component 0 with a (1) and b (2), and connection 0 from a's f to b's g
abbrev across_top : List String → List String
across_top ls = "C top - - p t -" ∷ "C a 0 - p t -" ∷ "C b 0 - p t -" ∷ "X c 0 3 a f b g" ∷ ls

abbrev pub of_chains : List Trial
of_chains =
    -- "A chain ends where no step exists": a stepless one. A row has the X row's kind and name
    prints-of (across_top []) ("S     0     3     1     2     1     0" ∷ "= c" ∷ "< f" ∷ "> g" ∷ "Z     1     0" ∷ [])
    -- "Connections, then children, in row order" (places are rows here), towards the source; "It leads to (child, source feature)"
    ∷ prints-of
    (across_top ("C k[1] 1 1 p t -" ∷ "C l 1 - p t -" ∷ "C k[2] 1 2 p t -" ∷ "X d 1 0 l v - f" ∷ "X e 1 0 k u - f" ∷ []))
    ("S     0     3     4     2     2     0     1" ∷ "= c" ∷ "< v" ∷ "> g" ∷
    "S     0     3     3     2     2     0     2" ∷ "= c" ∷ "< u" ∷ "> g" ∷
    "S     0     3     5     2     2     0     2" ∷ "= c" ∷ "< u" ∷ "> g" ∷ "Z     3     0" ∷ [])
    -- "Towards the destination, its mirror image"
    ∷ prints-of
    (across_top ("C k[1] 2 1 p t -" ∷ "C l 2 - p t -" ∷ "C k[2] 2 2 p t -" ∷ "X d 2 0 - g l v" ∷ "X e 2 0 - g k u" ∷ []))
    ("S     0     3     1     4     2     0     1" ∷ "= c" ∷ "< f" ∷ "> v" ∷
    "S     0     3     1     3     2     0     2" ∷ "= c" ∷ "< f" ∷ "> u" ∷
    "S     0     3     1     5     2     0     2" ∷ "= c" ∷ "< f" ∷ "> u" ∷ "Z     3     0" ∷ [])
    -- "every source chain with every destination chain; path is this connection, source steps, then destination steps"
    ∷ prints-of
    (across_top
    ("C k 1 - p t -" ∷ "C l 1 - p t -" ∷ "C m 2 - p t -" ∷ "C n 2 - p t -" ∷
    "X i 2 0 - g n g" ∷ "X h 2 0 - g m g" ∷ "X e 1 0 l f - f" ∷ "X d 1 0 k f - f" ∷ []))
    ("S     0     3     4     6     3     0     3     1" ∷ "= c" ∷ "< f" ∷ "> g" ∷
    "S     0     3     4     5     3     0     3     2" ∷ "= c" ∷ "< f" ∷ "> g" ∷
    "S     0     3     3     6     3     0     4     1" ∷ "= c" ∷ "< f" ∷ "> g" ∷
    "S     0     3     3     5     3     0     4     2" ∷ "= c" ∷ "< f" ∷ "> g" ∷ "Z     4     0" ∷ [])
    -- "its destination feature byte-equal" to the feature that the step before led to; two steps and a fork of unequal length
    ∷ prints-of
    (across_top
    ("C k 1 - p t -" ∷ "C l 3 - p t -" ∷ "C m 1 - p t -" ∷ "X d 1 0 k u - f" ∷ "X e 3 0 l v - u" ∷ "X h 3 0 l w - f" ∷ "X i 3 0 l w - U" ∷
    "X j 1 0 m w - f" ∷ []))
    ("S     0     3     4     2     3     0     1     2" ∷ "= c" ∷ "< v" ∷ "> g" ∷
    "S     0     3     5     2     2     0     5" ∷ "= c" ∷ "< w" ∷ "> g" ∷ "Z     2     0" ∷ [])
    ∷ prints-of
    (across_top ("C k 2 - p t -" ∷ "C l 3 - p t -" ∷ "X d 2 0 - g k u" ∷ "X e 3 0 - u l v" ∷ "X h 3 0 - g l w" ∷ "X i 3 0 - U l w" ∷ []))
    ("S     0     3     1     4     3     0     1     2" ∷ "= c" ∷ "< f" ∷ "> v" ∷ "Z     1     0" ∷ [])
    -- "with a source subcomponent, no destination subcomponent": a connection between two children is no step, nor is one with neither
    ∷ prints-of
    (across_top ("C k 1 - p t -" ∷ "C l 1 - p t -" ∷ "C m 2 - p t -" ∷ "C n 2 - p t -" ∷ "X d 1 0 k u l f" ∷ "X e 2 0 m g n u" ∷ "X h 1 0 - u - f" ∷ []))
    ("S     0     3     1     2     1     0" ∷ "= c" ∷ "< f" ∷ "> g" ∷
    "S     1     0     3     4     1     1" ∷ "= d" ∷ "< u" ∷ "> f" ∷
    "S     2     0     5     6     1     2" ∷ "= e" ∷ "< g" ∷ "> u" ∷ "Z     3     0" ∷ [])
    -- "a connection of that component"; "and one found child": without a child there is no step; of another component's connection neither
    ∷ prints-of
    (across_top ("C k 2 - p t -" ∷ "X d 1 0 k u - f" ∷ "X e 2 0 k u - f" ∷ []))
    ("S     0     3     1     2     1     0" ∷ "= c" ∷ "< f" ∷ "> g" ∷ "Z     1     0" ∷ [])
    -- a connection that has a step's shape towards the source is none towards the destination
    ∷ prints-of
    (across_top ("C k 1 - p t -" ∷ "C l 2 - p t -" ∷ "X d 1 0 - f k u" ∷ "X e 2 0 l u - g" ∷ []))
    ("S     0     3     1     2     1     0" ∷ "= c" ∷ "< f" ∷ "> g" ∷ "Z     1     0" ∷ [])
    ∷ []

-- 02 (i): "Pairs, chains and the first found child follow that place"
abbrev pub of_places : List Trial
of_places =
    -- pairs, all of them: the second b and then the first, for each a
    prints-of
    ("C top - - p t - 0" ∷ "C a 0 - p t - 9" ∷ "C b 0 - p t - 8" ∷ "C a 0 - p t - 3" ∷ "C b 0 - p t - 1" ∷ "X c 0 0 a f b g" ∷ [])
    ("S     0     0     3     4     1     0" ∷ "= c" ∷ "< f" ∷ "> g" ∷ "S     0     0     3     2     1     0" ∷ "= c" ∷ "< f" ∷ "> g" ∷
    "S     0     0     1     4     1     0" ∷ "= c" ∷ "< f" ∷ "> g" ∷ "S     0     0     1     2     1     0" ∷ "= c" ∷ "< f" ∷ "> g" ∷
    "Z     4     0" ∷ [])
    -- one to one, array elements too: the first by place with the first by place
    ∷ prints-of
    ("C top - - p t One_To_One 0" ∷ "C a[1] 0 1 p t - 9" ∷ "C b 0 - p t - 8" ∷ "C a[2] 0 2 p t - 3" ∷ "C b 0 - p t - 1" ∷ "X c 0 0 a f b g" ∷ [])
    ("S     0     0     3     4     1     0" ∷ "= c" ∷ "< f" ∷ "> g" ∷ "S     0     0     1     2     1     0" ∷ "= c" ∷ "< f" ∷ "> g" ∷
    "Z     2     0" ∷ [])
    -- and where there are more sources, the last by place is left
    ∷ prints-of
    ("C top - - p t One_To_One 0" ∷ "C a 0 - p t - 5" ∷ "C a 0 - p t - 3" ∷ "C b 0 - p t - 4" ∷ "X c 0 0 a f b g" ∷ [])
    ("S     0     0     2     3     1     0" ∷ "= c" ∷ "< f" ∷ "> g" ∷ "D     4     0     2     1" ∷
    "! connection 'c': One_To_One pattern requires equal array sizes (source=2, destination=1)" ∷ "@ top" ∷ "@ c" ∷ "Z     1     0" ∷ [])
    -- chains: "connections still go by row", the children of each by place
    ∷ prints-of
    (across_top ("C k 1 - p t - 7" ∷ "C l 1 - p t - 6" ∷ "C k 1 - p t - 5" ∷ "X d 1 0 k u - f" ∷ "X e 1 0 l v - f" ∷ []))
    ("S     0     3     5     2     2     0     1" ∷ "= c" ∷ "< u" ∷ "> g" ∷
    "S     0     3     3     2     2     0     1" ∷ "= c" ∷ "< u" ∷ "> g" ∷
    "S     0     3     4     2     2     0     2" ∷ "= c" ∷ "< v" ∷ "> g" ∷ "Z     3     0" ∷ [])
    -- and towards the destination
    ∷ prints-of
    (across_top ("C k 2 - p t - 7" ∷ "C l 2 - p t - 6" ∷ "C k 2 - p t - 5" ∷ "X d 2 0 - g k u" ∷ "X e 2 0 - g l v" ∷ []))
    ("S     0     3     1     5     2     0     1" ∷ "= c" ∷ "< f" ∷ "> u" ∷
    "S     0     3     1     3     2     0     1" ∷ "= c" ∷ "< f" ∷ "> u" ∷
    "S     0     3     1     4     2     0     2" ∷ "= c" ∷ "< f" ∷ "> v" ∷ "Z     3     0" ∷ [])
    -- the first found child of the group listing: row 2, of the smaller place, whose type has the group
    ∷ prints-of
    ("C top - - p t - 0" ∷ "C a 0 - p s - 2" ∷ "C a 0 - p t - 1" ∷ "F g 0 8" ∷ "F g 2 8" ∷ "X c 0 2 a g - g" ∷ "P p" ∷ "T 0 t 0" ∷ "T 0 s 0" ∷
    "E 0 0 g 8 - - G -" ∷ "U 0 G 0 - - - - - -" ∷ "E 1 0 x 0 - - - -" ∷ [])
    ("S     0     2     2     0     1     0" ∷ "= c" ∷ "< g" ∷ "> g" ∷ "S     0     2     1     0     1     0" ∷ "= c" ∷ "< g" ∷ "> g" ∷
    "S     0     0     2     0     1     0" ∷ "= c.x" ∷ "< g.x" ∷ "> g.x" ∷ "Z     2     1" ∷ [])
    -- the same at the destination
    ∷ prints-of
    ("C top - - p t - 0" ∷ "C a 0 - p s - 2" ∷ "C a 0 - p t - 1" ∷ "F g 0 8" ∷ "F g 2 8" ∷ "X c 0 2 - g a g" ∷ "P p" ∷ "T 0 t 0" ∷ "T 0 s 0" ∷
    "E 0 0 g 8 - - G -" ∷ "U 0 G 0 - - - - - -" ∷ "E 1 0 x 0 - - - -" ∷ [])
    ("S     0     2     0     2     1     0" ∷ "= c" ∷ "< g" ∷ "> g" ∷ "S     0     2     0     1     1     0" ∷ "= c" ∷ "< g" ∷ "> g" ∷
    "S     0     0     0     2     1     0" ∷ "= c.x" ∷ "< g.x" ∷ "> g.x" ∷ "Z     2     1" ∷ [])
    ∷ []

-- ---- what an X row gives

abbrev pub of_shapes : List Trial
of_shapes =
    -- "An end without feature: diagnostic 1, once, nothing more": at the source, the destination, both; below the root; with no such child
    prints-of
    ("C top - - p t -" ∷ "C a 0 - p t -" ∷ "X c 0 0 - - - g" ∷ "X d 0 2 - f - -" ∷ "X e 0 0 - - - -" ∷ "X h 1 0 - - a g" ∷ "X i 0 0 - - z g" ∷ [])
    ("D     1     0     0     0" ∷ "! connection 'c': missing endpoint" ∷ "@ top" ∷ "@ c" ∷
    "D     1     1     0     0" ∷ "! connection 'd': missing endpoint" ∷ "@ top" ∷ "@ d" ∷
    "D     1     2     0     0" ∷ "! connection 'e': missing endpoint" ∷ "@ top" ∷ "@ e" ∷
    "D     1     3     0     0" ∷ "! connection 'h': missing endpoint" ∷ "@ a" ∷ "@ h" ∷
    "D     1     4     0     0" ∷ "! connection 'i': missing endpoint" ∷ "@ top" ∷ "@ i" ∷ "Z     0     0" ∷ [])
    -- "Both with subcomponent: diagnostic 2 for no source child, 3 for no destination child", with the subcomponent's name; rows come first
    ∷ prints-of
    ("C top - - p t -" ∷ "C a 0 - p t -" ∷ "X c 0 0 y f z g" ∷ "X d 0 0 a f z g" ∷ "X e 0 0 y f a g" ∷ "X h 0 0 a f a g" ∷ [])
    ("S     3     0     1     1     1     3" ∷ "= h" ∷ "< f" ∷ "> g" ∷
    "D     2     0     7     0" ∷ "! connection 'c': unresolved source subcomponent 'y'" ∷ "@ top" ∷ "@ c" ∷
    "D     3     0     9     0" ∷ "! connection 'c': unresolved destination subcomponent 'z'" ∷ "@ top" ∷ "@ c" ∷
    "D     3     1    14     0" ∷ "! connection 'd': unresolved destination subcomponent 'z'" ∷ "@ top" ∷ "@ d" ∷
    "D     2     2    17     0" ∷ "! connection 'e': unresolved source subcomponent 'y'" ∷ "@ top" ∷ "@ e" ∷ "Z     1     0" ∷ [])
    -- "then 4 where the owner's pattern is one to one and the counts differ": also where one side has none, not where both have none
    ∷ prints-of
    ("C top - - p t One_To_One" ∷ "C a 0 - p t -" ∷ "X c 0 0 y f z g" ∷ "X d 0 0 a f z g" ∷ "X e 0 0 y f a g" ∷ [])
    ("D     2     0     8     0" ∷ "! connection 'c': unresolved source subcomponent 'y'" ∷ "@ top" ∷ "@ c" ∷
    "D     3     0    10     0" ∷ "! connection 'c': unresolved destination subcomponent 'z'" ∷ "@ top" ∷ "@ c" ∷
    "D     3     1    15     0" ∷ "! connection 'd': unresolved destination subcomponent 'z'" ∷ "@ top" ∷ "@ d" ∷
    "D     4     1     1     0" ∷ "! connection 'd': One_To_One pattern requires equal array sizes (source=1, destination=0)" ∷ "@ top" ∷ "@ d" ∷
    "D     2     2    18     0" ∷ "! connection 'e': unresolved source subcomponent 'y'" ∷ "@ top" ∷ "@ e" ∷
    "D     4     2     0     1" ∷ "! connection 'e': One_To_One pattern requires equal array sizes (source=0, destination=1)" ∷ "@ top" ∷ "@ e" ∷
    "Z     0     0" ∷ [])
    -- "Pairs .. all, source outermost": the pattern is missing
    ∷ prints-of
    ("C top - - p t -" ∷ "C a 0 - p t -" ∷ "C a 0 - p t -" ∷ "C b 0 - p t -" ∷ "C b 0 - p t -" ∷ "X c 0 0 a f b g" ∷ [])
    ("S     0     0     1     3     1     0" ∷ "= c" ∷ "< f" ∷ "> g" ∷ "S     0     0     1     4     1     0" ∷ "= c" ∷ "< f" ∷ "> g" ∷
    "S     0     0     2     3     1     0" ∷ "= c" ∷ "< f" ∷ "> g" ∷ "S     0     0     2     4     1     0" ∷ "= c" ∷ "< f" ∷ "> g" ∷
    "Z     4     0" ∷ [])
    -- "Pairs up to the shorter list": one to one
    ∷ prints-of
    ("C top - - p t one_to_one" ∷ "C a 0 - p t -" ∷ "C a 0 - p t -" ∷ "C b 0 - p t -" ∷ "C b 0 - p t -" ∷ "X c 0 0 a f b g" ∷ [])
    ("S     0     0     1     3     1     0" ∷ "= c" ∷ "< f" ∷ "> g" ∷ "S     0     0     2     4     1     0" ∷ "= c" ∷ "< f" ∷ "> g" ∷
    "Z     2     0" ∷ [])
    -- "the owner's pattern": neither the root's nor a child's
    ∷ prints-of
    ("C top - - p t One_To_One" ∷ "C sys 0 - p t -" ∷ "C a 1 - p t One_To_One" ∷ "C a 1 - p t One_To_One" ∷ "C b 1 - p t One_To_One" ∷
    "X c 1 0 a f b g" ∷ [])
    ("S     0     0     2     4     1     0" ∷ "= c" ∷ "< f" ∷ "> g" ∷ "S     0     0     3     4     1     0" ∷ "= c" ∷ "< f" ∷ "> g" ∷
    "Z     2     0" ∷ [])
    ∷ prints-of
    ("C top - - p t -" ∷ "C sys 0 - p t One_To_One" ∷ "C a 1 - p t -" ∷ "C a 1 - p t -" ∷ "C b 1 - p t -" ∷ "X c 1 0 a f b g" ∷ [])
    ("S     0     0     2     4     1     0" ∷ "= c" ∷ "< f" ∷ "> g" ∷ "D     4     0     2     1" ∷
    "! connection 'c': One_To_One pattern requires equal array sizes (source=2, destination=1)" ∷ "@ sys" ∷ "@ c" ∷ "Z     1     0" ∷ [])
    -- "One with subcomponent: only if the owner has no parent": each child, whatever the pattern
    ∷ prints-of
    ("C top - - p t One_To_One" ∷ "C a 0 - p t -" ∷ "C a 0 - p t -" ∷ "X c 0 1 a f - g" ∷ "X d 0 4 - g a f" ∷ "X e 1 0 a f - g" ∷ "X h 1 0 - g a f" ∷ [])
    ("S     0     1     1     0     1     0" ∷ "= c" ∷ "< f" ∷ "> g" ∷ "S     0     1     2     0     1     0" ∷ "= c" ∷ "< f" ∷ "> g" ∷
    "S     1     4     0     1     1     1" ∷ "= d" ∷ "< g" ∷ "> f" ∷ "S     1     4     0     2     1     1" ∷ "= d" ∷ "< g" ∷ "> f" ∷
    "Z     4     0" ∷ [])
    -- below the root a connection with one subcomponent gives nothing, found or not
    ∷ prints-of
    ("C top - - p t -" ∷ "C a 0 - p t -" ∷ "C k 1 - p t -" ∷ "X c 1 0 k f - g" ∷ "X d 1 0 - g k f" ∷ "X e 1 0 z f - g" ∷ "X h 1 0 - g z f" ∷ [])
    ("Z     0     0" ∷ [])
    -- "2 or 3 as above"
    ∷ prints-of
    ("C top - - p t -" ∷ "X c 0 0 z f - g" ∷ "X d 0 0 - g z f" ∷ [])
    ("D     2     0     4     0" ∷ "! connection 'c': unresolved source subcomponent 'z'" ∷ "@ top" ∷ "@ c" ∷
    "D     3     1     9     0" ∷ "! connection 'd': unresolved destination subcomponent 'z'" ∷ "@ top" ∷ "@ d" ∷ "Z     0     0" ∷ [])
    -- "the other end is the owner and is not traced", though a step leads from it; the child is
    ∷ prints-of
    ("C top - - p t -" ∷ "C a 0 - p t -" ∷ "C b 0 - p t -" ∷ "C k 1 - p t -" ∷ "C l 2 - p t -" ∷
    "X c 0 0 a f - g" ∷ "X d 1 0 k u - f" ∷ "X e 0 0 - g b h" ∷ "X h 2 0 - h l v" ∷ [])
    ("S     0     0     3     0     2     0     1" ∷ "= c" ∷ "< u" ∷ "> g" ∷
    "S     2     0     0     4     2     2     3" ∷ "= e" ∷ "< g" ∷ "> v" ∷ "Z     2     0" ∷ [])
    -- "Neither: nothing"
    ∷ prints-of ("C top - - p t -" ∷ "X c 0 0 - f - g" ∷ []) ("Z     0     0" ∷ [])
    ∷ []

-- ---- the group listing

-- connection c of kind 2 from the owner's g to its g, a group of type G; then further rows
abbrev own : List String → List String
own ls = "C top - - p t -" ∷ "F g 0 8" ∷ "X c 0 2 - g - g" ∷ "P p" ∷ "T 0 t 0" ∷ "E 0 0 g 8 - - G -" ∷ ls

-- the same from g, a group of type A (U row 0), to h, one of type B (U row 1); the next name in the rows that follow has number 16
abbrev two : List String → List String
two ls =
    "C top - - p t -" ∷ "F g 0 8" ∷ "F h 0 8" ∷ "X c 0 2 - g - h" ∷ "P p" ∷ "T 0 t 0" ∷ "E 0 0 g 8 - - A -" ∷ "E 0 0 h 8 - - B -" ∷
    "U 0 A 0 - - - - - -" ∷ "U 0 B 0 - - - - - -" ∷ ls

-- G with the feature x, and the row that it then gives
abbrev with_x : List String
with_x = "U 0 G 0 - - - - - -" ∷ "E 1 0 x 0 - - - -" ∷ []

abbrev row_x : List String
row_x = "S     0     0     0     0     1     0" ∷ "= c.x" ∷ "< g.x" ∷ "> g.x" ∷ "Z     0     1" ∷ []

abbrev nothing : List String
nothing = "Z     0     0" ∷ []

abbrev pub of_matching : List Trial
of_matching =
    -- "the owner where no subcomponent is named"
    prints-of (own with_x) row_x
    -- "the kind by `feature_kind_to_connection_kind`": ports 0, parameter 4, accesses 1, group 2, feature 3
    ∷ prints-of
    (own
    ("U 0 G 0 - - - - - -" ∷ "E 1 0 a 0 - - - -" ∷ "E 1 0 b 1 - - - -" ∷ "E 1 0 d 2 - - - -" ∷ "E 1 0 e 3 - - - -" ∷ "E 1 0 f 4 - - - -" ∷
    "E 1 0 h 5 - - - -" ∷ "E 1 0 i 6 - - - -" ∷ "E 1 0 j 7 - - - -" ∷ "E 1 0 k 8 - - - -" ∷ "E 1 0 l 9 - - - -" ∷ []))
    ("S     0     0     0     0     1     0" ∷ "= c.a" ∷ "< g.a" ∷ "> g.a" ∷ "S     0     0     0     0     1     0" ∷ "= c.b" ∷ "< g.b" ∷ "> g.b" ∷
    "S     0     0     0     0     1     0" ∷ "= c.d" ∷ "< g.d" ∷ "> g.d" ∷ "S     0     4     0     0     1     0" ∷ "= c.e" ∷ "< g.e" ∷ "> g.e" ∷
    "S     0     1     0     0     1     0" ∷ "= c.f" ∷ "< g.f" ∷ "> g.f" ∷ "S     0     1     0     0     1     0" ∷ "= c.h" ∷ "< g.h" ∷ "> g.h" ∷
    "S     0     1     0     0     1     0" ∷ "= c.i" ∷ "< g.i" ∷ "> g.i" ∷ "S     0     1     0     0     1     0" ∷ "= c.j" ∷ "< g.j" ∷ "> g.j" ∷
    "S     0     2     0     0     1     0" ∷ "= c.k" ∷ "< g.k" ∷ "> g.k" ∷ "S     0     3     0     0     1     0" ∷ "= c.l" ∷ "< g.l" ∷ "> g.l" ∷
    "Z     0    10" ∷ [])
    -- "The search stops at the first destination feature whose last name is equal folded"; kind and row name are the source feature's
    -- "No match: diagnostic 5" with the feature's name
    ∷ prints-of
    (two ("E 1 0 x 0 - - - -" ∷ "E 1 0 y 1 - - - -" ∷ "E 1 0 w 1 - - - -" ∷ "E 1 1 z 0 - - - -" ∷ "E 1 1 Y 3 - - - -" ∷ "E 1 1 y 5 - - - -" ∷ []))
    ("S     0     0     0     0     1     0" ∷ "= c.y" ∷ "< g.y" ∷ "> h.Y" ∷
    "D     5     0    16     0" ∷ "! feature group connection 'c': source feature 'x' has no matching destination feature (STPA-REQ-011)" ∷ "@ c" ∷ "@ x" ∷
    "D     5     0    18     0" ∷ "! feature group connection 'c': source feature 'w' has no matching destination feature (STPA-REQ-011)" ∷ "@ c" ∷ "@ w" ∷
    "Z     0     1" ∷ [])
    -- "prefixes are not compared"; "group.prefix.feature names (group.feature without a prefix)"
    ∷ prints-of
    (two
    ("U 0 K 0 - - - - - -" ∷ "U 0 L 0 - - - - - -" ∷ "E 1 0 s 8 - - K -" ∷ "E 1 0 y 0 - - - -" ∷ "E 1 1 X 0 - - - -" ∷ "E 1 1 r 8 - - L -" ∷
    "E 1 2 x 4 - - - -" ∷ "E 1 3 q 8 - - M -" ∷ "U 0 M 0 - - - - - -" ∷ "E 1 4 Y 0 - - - -" ∷ "E 1 3 x 0 - - - -" ∷ []))
    ("S     0     1     0     0     1     0" ∷ "= c.x" ∷ "< g.s.x" ∷ "> h.X" ∷
    "S     0     0     0     0     1     0" ∷ "= c.y" ∷ "< g.y" ∷ "> h.r.q.Y" ∷ "Z     0     2" ∷ [])
    -- every source feature looks from the first destination feature on: two of one name have one partner
    ∷ prints-of
    (two ("E 1 0 x 0 - - - -" ∷ "E 1 0 X 4 - - - -" ∷ "E 1 1 x 0 - - - -" ∷ "E 1 1 X 0 - - - -" ∷ []))
    ("S     0     0     0     0     1     0" ∷ "= c.x" ∷ "< g.x" ∷ "> h.x" ∷
    "S     0     1     0     0     1     0" ∷ "= c.X" ∷ "< g.X" ∷ "> h.x" ∷ "Z     0     2" ∷ [])
    -- "the group spelled as in the X row"; F row and E row are found folded
    ∷ prints-of
    ("C top - - p t -" ∷ "F grp 0 8" ∷ "X c 0 2 - GRP - Grp" ∷ "P p" ∷ "T 0 t 0" ∷ "E 0 0 gRP 8 - - G -" ∷ with_x)
    ("S     0     0     0     0     1     0" ∷ "= c.x" ∷ "< GRP.x" ∷ "> Grp.x" ∷ "Z     0     1" ∷ [])
    -- "per X row of kind 2 with both ends": not of kind 0, 1, 3, 4
    ∷ prints-of
    ("C top - - p t -" ∷ "F g 0 8" ∷ "X c 0 0 - g - g" ∷ "X c 0 1 - g - g" ∷ "X c 0 3 - g - g" ∷ "X c 0 4 - g - g" ∷ "P p" ∷ "T 0 t 0" ∷
    "E 0 0 g 8 - - G -" ∷ with_x)
    nothing
    ∷ prints-of
    ("C top - - p t -" ∷ "F g 0 8" ∷ "X c 0 2 - g - -" ∷ "P p" ∷ "T 0 t 0" ∷ "E 0 0 g 8 - - G -" ∷ with_x)
    ("D     1     0     0     0" ∷ "! connection 'c': missing endpoint" ∷ "@ top" ∷ "@ c" ∷ "Z     0     0" ∷ [])
    -- "first found child": the second a alone has the feature; a row's components are the two found ones
    ∷ prints-of
    ("C top - - p t -" ∷ "C a 0 - p t -" ∷ "C a 0 - p t -" ∷ "F g 0 8" ∷ "F g 2 8" ∷ "X c 0 2 a g - g" ∷ "P p" ∷ "T 0 t 0" ∷ "E 0 0 g 8 - - G -" ∷ with_x)
    ("S     0     2     1     0     1     0" ∷ "= c" ∷ "< g" ∷ "> g" ∷ "S     0     2     2     0     1     0" ∷ "= c" ∷ "< g" ∷ "> g" ∷
    "Z     2     0" ∷ [])
    ∷ prints-of
    ("C top - - p t -" ∷ "C a 0 - p t -" ∷ "C a[1] 0 1 p t -" ∷ "C a[2] 0 2 p t -" ∷ "F g 1 8" ∷ "F g 2 8" ∷ "X c 0 2 A g a g" ∷ "P p" ∷ "T 0 t 0" ∷
    "E 0 0 g 8 - - G -" ∷ with_x)
    ("S     0     2     2     1     1     0" ∷ "= c" ∷ "< g" ∷ "> g" ∷ "S     0     2     3     1     1     0" ∷ "= c" ∷ "< g" ∷ "> g" ∷
    "S     0     0     2     1     1     0" ∷ "= c.x" ∷ "< g.x" ∷ "> g.x" ∷ "Z     2     1" ∷ [])
    -- "skip if none": an end whose subcomponent is not found
    ∷ prints-of
    ("C top - - p t -" ∷ "F g 0 8" ∷ "X c 0 2 - g z g" ∷ "P p" ∷ "T 0 t 0" ∷ "E 0 0 g 8 - - G -" ∷ with_x)
    ("D     3     0     6     0" ∷ "! connection 'c': unresolved destination subcomponent 'z'" ∷ "@ top" ∷ "@ c" ∷ "Z     0     0" ∷ [])
    -- two connections, in row order
    ∷ prints-of
    ("C top - - p t -" ∷ "C a 0 - p t -" ∷ "F g 0 8" ∷ "F g 1 8" ∷ "X c 1 2 - g - g" ∷ "X d 0 2 - g - g" ∷ "P p" ∷ "T 0 t 0" ∷ "E 0 0 g 8 - - G -" ∷ with_x)
    ("S     0     0     1     1     1     0" ∷ "= c.x" ∷ "< g.x" ∷ "> g.x" ∷
    "S     1     0     0     0     1     1" ∷ "= d.x" ∷ "< g.x" ∷ "> g.x" ∷ "Z     0     2" ∷ [])
    ∷ []

abbrev diag_x : List String
diag_x =
    "D     5     0    16     0" ∷ "! feature group connection 'c': source feature 'x' has no matching destination feature (STPA-REQ-011)" ∷ "@ c" ∷ "@ x" ∷
    "Z     0     0" ∷ []

-- from g, a group of type G with the feature x, whose name has number 16, to h; then further rows
abbrev towards : List String → List String
towards ls =
    "C top - - p t -" ∷ "F g 0 8" ∷ "X c 0 2 - g - h" ∷ "P p" ∷ "T 0 t 0" ∷ "T 0 s 0" ∷ "C b 0 - p s -" ∷ "E 0 0 g 8 - - G -" ∷ "U 0 G 0 - - - - - -" ∷
    "E 1 0 x 0 - - - -" ∷ ls

abbrev pub of_endpoints : List Trial
of_endpoints =
    -- "if either gives none (an empty expansion is not none), skip": h is a group that is empty, or not found
    prints-of (towards ("F h 0 8" ∷ "E 0 0 h 8 - - B -" ∷ "U 0 B 0 - - - - - -" ∷ [])) diag_x
    ∷ prints-of (towards ("F h 0 8" ∷ "E 0 0 h 8 - - B -" ∷ [])) diag_x
    -- "It needs an F row of the component (folded name, kind 8)"
    ∷ prints-of (towards ("E 0 0 h 8 - - B -" ∷ [])) nothing
    ∷ prints-of (towards ("F h 1 8" ∷ "E 0 0 h 8 - - B -" ∷ [])) nothing
    ∷ prints-of (towards ("F h 0 7" ∷ "E 0 0 h 8 - - B -" ∷ [])) nothing
    ∷ prints-of (towards ("F H 0 7" ∷ "F H 0 8" ∷ "E 0 0 h 8 - - B -" ∷ [])) diag_x
    -- "and that type's first E row of that folded name and kind 8": of the type, of T, of kind 8
    ∷ prints-of (towards ("F h 0 8" ∷ [])) nothing
    ∷ prints-of (towards ("F h 0 8" ∷ "E 0 1 h 8 - - B -" ∷ [])) nothing
    ∷ prints-of (towards ("F h 0 8" ∷ "E 1 0 h 8 - - B -" ∷ [])) nothing
    ∷ prints-of (towards ("F h 0 8" ∷ "E 0 0 h 7 - - B -" ∷ [])) nothing
    ∷ prints-of (towards ("F h 0 8" ∷ "E 0 0 h 7 - - - -" ∷ "E 0 0 H 8 - - B -" ∷ [])) diag_x
    -- "if that row lacks a classifier, none", though a later one has it
    ∷ prints-of (towards ("F h 0 8" ∷ "E 0 0 h 8 - - - -" ∷ [])) nothing
    ∷ prints-of (towards ("F h 0 8" ∷ "E 0 0 h 8 - - - -" ∷ "E 0 0 h 8 - - B -" ∷ [])) nothing
    ∷ prints-of (towards ("F h 0 8" ∷ "E 0 0 h 8 - - B -" ∷ "E 0 0 h 8 - - - -" ∷ [])) diag_x
    -- the first of two is taken: B is empty, and G would match
    ∷ prints-of (towards ("F h 0 8" ∷ "E 0 0 h 8 - - B -" ∷ "E 0 0 h 8 - - G -" ∷ [])) diag_x
    -- "the component's type resolved to a T": not to a U (row 0, as the T row that has the feature)
    ∷ prints-of
    ("C top - - p t -" ∷ "F g 0 8" ∷ "X c 0 2 - g - g" ∷ "P p" ∷ "T 0 s 0" ∷ "U 0 t 0 - - - - - -" ∷ "U 0 G 0 - - - - - -" ∷ "E 0 0 g 8 - - G -" ∷
    "E 1 1 x 0 - - - -" ∷ [])
    nothing
    -- "(a reference with and from the component's package)": no import and no classifier rename; a private type is found
    ∷ prints-of
    ("C top - - p t -" ∷ "F g 0 8" ∷ "X c 0 2 - g - g" ∷ "P p" ∷ "P q" ∷ "I 0 q" ∷ "T 1 t 0" ∷ "E 0 0 g 8 - - G -" ∷ with_x)
    nothing
    ∷ prints-of
    ("C top - - p t -" ∷ "F g 0 8" ∷ "X c 0 2 - g - g" ∷ "P p" ∷ "P q" ∷ "T 1 s 0" ∷ "R 0 1 t q s" ∷ "E 0 0 g 8 - - G -" ∷ with_x)
    nothing
    ∷ prints-of
    ("C top - - p t -" ∷ "F g 0 8" ∷ "X c 0 2 - g - g" ∷ "P p" ∷ "T 0 t 1" ∷ "E 0 0 g 8 - - G -" ∷ with_x)
    row_x
    -- a package rename of the component's package replaces its own name; the group is then asked for from p, not from where the type was found
    ∷ prints-of
    ("C top - - p t -" ∷ "F g 0 8" ∷ "X c 0 2 - g - g" ∷ "P p" ∷ "P q" ∷ "T 1 t 0" ∷ "R 0 0 p q -" ∷ "E 0 0 g 8 - - G -" ∷ "U 0 G 0 - - - - - -" ∷
    "U 1 G 0 - - - - - -" ∷ "E 1 0 x 0 - - - -" ∷ "E 1 1 y 0 - - - -" ∷ [])
    row_x
    -- "The asking package is the classifier's, else the component's": a private group is found from outside
    ∷ prints-of
    ("C top - - p t -" ∷ "F g 0 8" ∷ "X c 0 2 - g - g" ∷ "P p" ∷ "P q" ∷ "T 0 t 0" ∷ "E 0 0 g 8 - q G -" ∷ "U 0 G 0 - - - - - -" ∷ "U 1 G 1 - - - - - -" ∷
    "E 1 1 x 0 - - - -" ∷ "E 1 0 y 0 - - - -" ∷ [])
    row_x
    -- asked from it without a package: q's imports are searched
    ∷ prints-of
    ("C top - - p t -" ∷ "F g 0 8" ∷ "X c 0 2 - g - g" ∷ "P p" ∷ "P q" ∷ "P r" ∷ "I 1 r" ∷ "T 0 t 0" ∷ "E 0 0 g 8 - q G -" ∷ "U 2 G 0 - - - - - -" ∷
    "E 1 0 x 0 - - - -" ∷ [])
    row_x
    -- "with no rename applied": al is no package, so the expansion is empty
    ∷ prints-of
    ("C top - - p t -" ∷ "F g 0 8" ∷ "X c 0 2 - g - g" ∷ "P p" ∷ "P q" ∷ "T 0 t 0" ∷ "E 0 0 g 8 - al G -" ∷ "R 0 0 al q -" ∷ "U 1 G 0 - - - - - -" ∷
    "E 1 0 x 0 - - - -" ∷ [])
    nothing
    -- "the implementation name is dropped"
    ∷ prints-of
    ("C top - - p t -" ∷ "F g 0 8" ∷ "X c 0 2 - g - g" ∷ "P p" ∷ "T 0 t 0" ∷ "E 0 0 g 8 - - G i" ∷ with_x)
    row_x
    -- an import of the component's package, and a group rename, find the group
    ∷ prints-of
    ("C top - - p t -" ∷ "F g 0 8" ∷ "X c 0 2 - g - g" ∷ "P p" ∷ "P q" ∷ "T 0 t 0" ∷ "E 0 0 g 8 - - G -" ∷ "R 0 2 G q H" ∷ "U 1 H 0 - - - - - -" ∷
    "E 1 0 x 0 - - - -" ∷ [])
    row_x
    ∷ []

-- ---- rooms, lent outputs, text

-- a traced row (connection 1) and diagnostic (connection 2), a group row and diagnostic (connection 0)
abbrev mixed : Tables
mixed =
    model
    ("C top - - p t -" ∷ "C a 0 - p t -" ∷ "F g 0 8" ∷ "F hub 0 8" ∷ "X cn 0 2 - g - hub" ∷ "X d 0 0 a f - g" ∷ "X e 0 0 - - - g" ∷ "P p" ∷ "T 0 t 0" ∷
    "E 0 0 g 8 - - A -" ∷ "E 0 0 hub 8 - - B -" ∷ "U 0 A 0 - - - - - -" ∷ "U 0 B 0 - - - - - -" ∷ "E 1 0 x 0 - - - -" ∷ "E 1 0 y 4 - - - -" ∷
    "E 1 1 X 0 - - - -" ∷ [])

-- the list, then zeros up to n numbers
abbrev filled : ℕ → List ℕ → List ℕ
filled n l = l ++ zeros (n - length l)

-- the numbers of a listing's row
abbrev row_width : ℕ
row_width = 137

-- connection, kind, two components, three name fields, path length, "places for 129 connections" of its path: of a traced row the fields are name
-- numbers, of a group row the lengths of its names
abbrev traced_row : List ℕ
traced_row = filled row_width (1 ∷ 0 ∷ 1 ∷ 0 ∷ 11 ∷ 13 ∷ 14 ∷ 1 ∷ 1 ∷ [])

abbrev group_row : List ℕ
group_row = filled row_width (0 ∷ 0 ∷ 0 ∷ 0 ∷ 4 ∷ 3 ∷ 5 ∷ 1 ∷ 0 ∷ [])

abbrev traced_diag : List ℕ
traced_diag = 1 ∷ 2 ∷ 0 ∷ 0 ∷ []

abbrev group_diag : List ℕ
group_diag = 5 ∷ 0 ∷ 26 ∷ 0 ∷ []

abbrev composed : List ℕ
composed = bytes_of "cn.xg.xhub.X"

-- of the two components the first child and the next sibling
abbrev mixed_links : List ℕ
mixed_links = 1 ∷ missing ∷ missing ∷ missing ∷ []

-- a refusal without a place
abbrev over : ℕ → Option Refusal
over n = Some (refusal n nowhere)

-- the same tables, but component 0 has a parent: 7
abbrev parented : Tables
parented = change mixed letter_c (λ t. set t 1 0)

abbrev bad_root : Option Refusal
bad_root = Some (refusal 7 (row letter_c 0))

-- connection 0 of the mixed model with expanded ends, of so many visits, that have the feature x
abbrev end : ℕ → Option Expansion
end v = Some (record { features = record { name = 25; kind = 0; direction = missing; prefix = [] } ∷ []; visits = v })

abbrev joining : Option Expansion → Option Expansion → GroupConnection
joining s d = record { conn = 0; src = 0; dst = 0; src_group = s; dst_group = d }

-- the group listing of connections in no room at all
abbrev joins_nowhere : List GroupConnection → ℕ → Trial
joins_nowhere bs n = joins (record { rows = 0; diags = 0 }) 0 mixed bs (over n)

-- a sheet and its 64 bytes of text
abbrev root_sheet : List ℕ
root_sheet =
    text
    ("N a" ∷ "C     0     -                   -     0     0     -     0" ∷ "C     0     0                   -     0     0     -     0" ∷ "X     0     0     0     0     0     -     0" ∷ [])

abbrev root_text : List ℕ
root_text = text ("S     0     0     1     0     1     0" ∷ "= a" ∷ "< a" ∷ "> a" ∷ "Z     1     0" ∷ [])

abbrev pub of_rooms : List Trial
of_rooms =
    -- "traced rows, group rows, traced diagnostics, group diagnostics, then `Z` with both row counts"
    lists mixed
    ("S     1     0     1     0     1     1" ∷ "= d" ∷ "< f" ∷ "> g" ∷ "S     0     0     0     0     1     0" ∷ "= cn.x" ∷ "< g.x" ∷ "> hub.X" ∷
    "D     1     2     0     0" ∷ "! connection 'e': missing endpoint" ∷ "@ top" ∷ "@ e" ∷
    "D     5     0    26     0" ∷ "! feature group connection 'cn': source feature 'y' has no matching destination feature (STPA-REQ-011)" ∷ "@ cn" ∷ "@ y" ∷
    "Z     1     1" ∷ [])
    -- "After success unused output is zero", "an output holds the whole rows in it"
    ∷ traces mixed None (mixed_links ++ zeros 5) (traced_row ++ zeros 3) (traced_diag ++ zeros 2)
    ∷ traces mixed None mixed_links traced_row traced_diag
    -- the path and its length
    ∷ traces (model (across_top ("C k 1 - p t -" ∷ "X d 1 0 k u - f" ∷ []))) None (1 ∷ missing ∷ 3 ∷ 2 ∷ missing ∷ missing ∷ missing ∷ missing ∷ []) (filled row_width (0 ∷ 3 ∷ 3 ∷ 2 ∷ 9 ∷ 19 ∷ 13 ∷ 2 ∷ 0 ∷ 1 ∷ [])) []
    -- 11: "more rows than the output holds", 12: "more diagnostics than the output holds", in this order; "A refusal leaves zeros"
    ∷ traces mixed (over 11) (zeros 4) (zeros (row_width - 1)) (zeros 3)
    ∷ traces mixed (over 12) (zeros 5) (zeros row_width) (zeros 3)
    ∷ groups mixed None (mixed_links ++ zeros 1) (group_row ++ zeros (row_width + 1)) (group_diag ++ zeros 5) (composed ++ zeros 2)
    ∷ groups mixed None mixed_links group_row group_diag composed
    -- "Each row's names (row, source, destination) lie unseparated in the output of composed names"
    ∷ groups (model (own (with_x ++ ("E 1 0 yy 3 - - - -" ∷ [])))) None (missing ∷ missing ∷ [])
    (filled row_width (0 ∷ 0 ∷ 0 ∷ 0 ∷ 3 ∷ 3 ∷ 3 ∷ 1 ∷ 0 ∷ []) ++ filled row_width (0 ∷ 4 ∷ 0 ∷ 0 ∷ 4 ∷ 4 ∷ 4 ∷ 1 ∷ 0 ∷ [])) []
    (bytes_of "c.xg.xg.xc.yyg.yyg.yy")
    -- in the table's order 11, 14: "composed names longer than their output", 12
    ∷ groups mixed (over 11) (zeros 4) (zeros (row_width - 1)) (zeros 3) (zeros 11)
    ∷ groups mixed (over 14) (zeros 4) (zeros row_width) (zeros 3) (zeros 11)
    ∷ groups mixed (over 12) (zeros 4) (zeros row_width) (zeros 3) (zeros 12)
    -- 13 before them: "one endpoint has over 65,536 visits", at the source, at the destination, in a later connection, beside an end that gives none
    ∷ joins_nowhere (joining (end 65536) (end 65536) ∷ []) 11
    ∷ joins_nowhere (joining (end 65537) (end 1) ∷ []) 13
    ∷ joins_nowhere (joining (end 1) (end 65537) ∷ []) 13
    ∷ joins_nowhere (joining (end 1) (end 1) ∷ joining None (end 65537) ∷ []) 13
    -- both in one call
    ∷ both mixed None mixed_links (traced_row ∷ traced_diag ∷ group_row ∷ group_diag ∷ composed ∷ [])
    ∷ both mixed None (mixed_links ++ zeros 7) (filled (row_width + 50) traced_row ∷ filled 9 traced_diag ∷ filled (row_width + 1) group_row ∷ filled 7 group_diag ∷ filled 13 composed ∷ [])
    -- "The traced listing ends, refusals included, before the group listing starts"
    ∷ both mixed (over 11) (zeros 4) (zeros (row_width - 1) ∷ zeros 3 ∷ [] ∷ [] ∷ [] ∷ [])
    ∷ both mixed (over 12) (zeros 4) (zeros row_width ∷ zeros 3 ∷ [] ∷ [] ∷ [] ∷ [])
    -- "A refusal leaves zeros in .. the listing's outputs, in both listings' where one call gives both"
    ∷ both mixed (over 11) (zeros 4) (zeros row_width ∷ zeros 4 ∷ zeros (row_width - 1) ∷ zeros 3 ∷ zeros 11 ∷ [])
    ∷ both mixed (over 14) (zeros 4) (zeros row_width ∷ zeros 4 ∷ zeros row_width ∷ zeros 3 ∷ zeros 11 ∷ [])
    ∷ both mixed (over 12) (zeros 4) (zeros row_width ∷ zeros 4 ∷ zeros row_width ∷ zeros 3 ∷ zeros 12 ∷ [])
    -- tables that are not accepted are refused before any listing
    ∷ traces parented bad_root (zeros 4) (zeros row_width) (zeros 4)
    ∷ groups parented bad_root (zeros 4) (zeros (row_width - 1)) (zeros 4) (zeros 12)
    ∷ both parented bad_root (zeros 4) (zeros (row_width - 1) ∷ zeros 4 ∷ zeros row_width ∷ zeros 4 ∷ zeros 12 ∷ [])
    -- "A refusal prints only `R`, number, place, a space and the table letter or `-`"
    ∷ lists parented ("R     7     0 C" ∷ [])
    ∷ lists (change mixed letter_n (λ t. t ++ (0 ∷ []))) ("R    10     0 N" ∷ [])
    -- 15: "printed list longer than its output"; unused output is zero; where a refusal's line has no place either, nothing stands
    ∷ fills root_sheet (filled 70 root_text)
    ∷ fills root_sheet root_text
    ∷ fills root_sheet (filled 63 (text ("R    15     0 -" ∷ [])))
    ∷ fills root_sheet (text ("R    15     0 -" ∷ []))
    ∷ fills root_sheet (zeros 15)
    ∷ []

-- ---- 02 (xiii): the link table

-- component 0 holds 1, 2, 4 and 5 at the places 7, 3, 9 and 5, and 2 holds 3
abbrev unordered : Tables
unordered = model ("C top - - p t - 0" ∷ "C a 0 - p t - 7" ∷ "C b 0 - p t - 3" ∷ "C a 2 - p t - 4" ∷ "C d 0 - p t - 9" ∷ "C e 0 - p t - 5" ∷ [])

-- a row for each component: "the first child and the next sibling"
abbrev unordered_links : List ℕ
unordered_links = 2 ∷ missing ∷ missing ∷ 4 ∷ 3 ∷ 5 ∷ missing ∷ missing ∷ missing ∷ missing ∷ missing ∷ 1 ∷ []

-- the mixed model with its package twice: 9
abbrev repeated : Tables
repeated = change mixed letter_p (λ t. t ++ t)

abbrev bad_package : Option Refusal
bad_package = Some (refusal 9 (row letter_p 1))

-- G, which visits G twice and H, which visits G and H: 75,024 visits, 13
abbrev with_many : List String
with_many = "U 0 G 0 - G - - - -" ∷ "U 0 H 0 - G - - - -" ∷ "E 1 0 s 8 - - G -" ∷ "E 1 0 s 8 - - H -" ∷ "E 1 1 s 8 - - H -" ∷ []

abbrev bushy : Tables
bushy = model (own with_many)

-- n components below component 0, each the child of the one before
abbrev deep : ℕ → Tables
deep n = change (model ("C top - - p t - 0" ∷ [])) letter_c (λ t. t ++ each (λ i. 0 ∷ i ∷ 0 ∷ 0 ∷ 0 ∷ 1 ∷ 2 ∷ missing ∷ 0 ∷ []) (up_to n))

abbrev pub of_links : List Trial
of_links =
    -- "a first child per component and a next sibling per child"; "missing as in 01"; unused output is zero
    traces unordered None unordered_links [] []
    ∷ traces unordered None (filled 13 unordered_links) (zeros 50) (zeros 5)
    ∷ groups unordered None (filled 15 unordered_links) [] [] []
    ∷ both unordered None (filled 14 unordered_links) ([] ∷ zeros 4 ∷ zeros 137 ∷ [] ∷ zeros 1 ∷ [])
    ∷ traces (model ("C top - - p t -" ∷ [])) None (missing ∷ missing ∷ 0 ∷ []) [] []
    -- "the walk gives the same children in the same order as a scan by place"
    ∷ walks unordered 0 (2 ∷ 5 ∷ 1 ∷ 4 ∷ [])
    ∷ walks unordered 2 (3 ∷ [])
    ∷ walks unordered 4 []
    -- 22: "One of fewer whole rows than components", by one row or by all; a row that is not whole is none
    ∷ traces unordered (over 22) (zeros 10) [] []
    ∷ traces unordered (over 22) (zeros 11) (zeros row_width) (zeros 4)
    ∷ groups unordered (over 22) (zeros 11) [] [] []
    ∷ both unordered (over 22) (zeros 11) ([] ∷ [] ∷ [] ∷ [] ∷ [] ∷ [])
    ∷ traces mixed (over 22) [] (zeros row_width) (zeros 4)
    -- before 11, 12 and 14, and before 13
    ∷ traces mixed (over 22) (zeros 3) (zeros (row_width - 1)) (zeros 3)
    ∷ groups mixed (over 22) (zeros 3) (zeros (row_width - 1)) (zeros 3) (zeros 11)
    ∷ both mixed (over 22) (zeros 3) (zeros (row_width - 1) ∷ zeros 3 ∷ zeros (row_width - 1) ∷ zeros 3 ∷ zeros 11 ∷ [])
    ∷ groups bushy (over 22) (zeros 1) [] [] []
    ∷ both bushy (over 22) (zeros 1) (zeros (2 * row_width) ∷ [] ∷ [] ∷ [] ∷ [] ∷ [])
    -- "after the tables' checks": the first of them, one between, and the last
    ∷ traces (change mixed letter_n (λ t. t ++ (0 ∷ []))) (Some (refusal 10 (row letter_n 0))) (zeros 3) (zeros row_width) (zeros 4)
    ∷ traces parented bad_root (zeros 3) (zeros row_width) (zeros 4)
    ∷ traces repeated bad_package (zeros 3) (zeros row_width) (zeros 4)
    ∷ groups repeated bad_package (zeros 3) (zeros row_width) (zeros 4) (zeros 12)
    ∷ both repeated bad_package (zeros 3) (zeros row_width ∷ zeros 4 ∷ zeros row_width ∷ zeros 4 ∷ zeros 12 ∷ [])
    -- conlist has a row for each component that a sheet can have, and no more
    ∷ lists (deep 95) nothing
    ∷ lists (deep 96) ("R    22     0 -" ∷ [])
    ∷ []

-- ---- 02 (vi): the second entry, "in which tracing compares features folded and the first child rule compares names folded. It gives both listings". Of two
-- lines on the same model the first is the ported entry's

-- a model in words, and what the second entry prints
abbrev folded-of : List String → List String → Trial
folded-of ls list = lists_folded (model ls) list

-- connection d leads to F inside a, where connection c begins at f; and from G inside b, where c ends at g
abbrev to_source : List String
to_source = across_top ("C k 1 - p t -" ∷ "X d 1 0 k Cmd - F" ∷ [])

abbrev to_destination : List String
to_destination = across_top ("C k 2 - p t -" ∷ "X d 2 0 - G k Set" ∷ [])

-- connection c has no step
abbrev stepless : List String
stepless = "S     0     3     1     2     1     0" ∷ "= c" ∷ "< f" ∷ "> g" ∷ "Z     1     0" ∷ []

-- inside a, d leads from F to u and e from f to v; from u and from v a step leads on only folded
abbrev spelled_twice : List String
spelled_twice = across_top ("C k 1 - p t -" ∷ "C l 3 - p t -" ∷ "X d 1 0 k u - F" ∷ "X e 1 0 k v - f" ∷ "X h 3 0 l w - U" ∷ "X i 3 0 l x - V" ∷ [])

-- the subcomponents of steps in other case than the children: K and an element of that name inside a, L inside b
abbrev spelled_inside : List String
spelled_inside = across_top ("C K 1 - p t -" ∷ "C k[1] 1 1 p t -" ∷ "C L 2 - p t -" ∷ "X d 1 0 k u - f" ∷ "X e 2 0 - g l v" ∷ [])

-- connections from a; inside it others lead to features that differ from theirs by 32 in a byte that is no letter, and in Q for 1
abbrev other_bytes : List String
other_bytes =
    "C top - - p t -" ∷ "C a 0 - p t -" ∷ "C k 1 - p t -" ∷ "X c 0 3 a @ - g" ∷ "X c 0 3 a a[ - g" ∷ "X c 0 3 a a] - g" ∷ "X c 0 3 a a^ - g" ∷ "X c 0 3 a a1 - g" ∷
    "X d 1 0 k u - `" ∷ "X d 1 0 k u - a{" ∷ "X d 1 0 k u - a}" ∷ "X d 1 0 k u - a~" ∷ "X d 1 0 k u - aQ" ∷ []

-- both ends of c in other case than the children
abbrev ends_spelled : List String
ends_spelled = "C top - - p t -" ∷ "C a 0 - p t -" ∷ "C b 0 - p t -" ∷ "X c 0 0 A f B g" ∷ []

-- one end each
abbrev one_end_spelled : List String
one_end_spelled = "C top - - p t -" ∷ "C a 0 - p t -" ∷ "X c 0 1 A CMD - g" ∷ "X d 0 4 - g A Cmd" ∷ []

-- one to one: a twice in two spellings against b; a twice against b in two spellings; A beside two elements against two elements
abbrev two_to_one : List String
two_to_one = "C top - - p t One_To_One" ∷ "C a 0 - p t -" ∷ "C A 0 - p t -" ∷ "C b 0 - p t -" ∷ "X c 0 0 a f b g" ∷ []

abbrev two_to_two : List String
two_to_two = "C top - - p t One_To_One" ∷ "C a 0 - p t -" ∷ "C a 0 - p t -" ∷ "C b 0 - p t -" ∷ "C B 0 - p t -" ∷ "X c 0 0 a f b g" ∷ []

abbrev one_to_two : List String
one_to_two =
    "C top - - p t One_To_One" ∷ "C A 0 - p t -" ∷ "C a[1] 0 1 p t -" ∷ "C a[2] 0 2 p t -" ∷ "C b[1] 0 1 p t -" ∷ "C B[2] 0 2 p t -" ∷ "X c 0 0 a f b g" ∷ []

-- every name of this model that differs from another also differs folded
abbrev apart : List String
apart =
    across_top ("C k 1 - p t -" ∷ "C l[1] 2 1 p t -" ∷ "X d 1 0 k u - f" ∷ "X e 2 0 - g l v" ∷ "X h 0 0 z f b g" ∷ [])

abbrev apart_list : List String
apart_list =
    "S     0     3     3     4     3     0     1     2" ∷ "= c" ∷ "< u" ∷ "> v" ∷
    "D     2     3    29     0" ∷ "! connection 'h': unresolved source subcomponent 'z'" ∷ "@ top" ∷ "@ h" ∷ "Z     1     0" ∷ []

-- connection c from the a of component 0 to its own g: A has a group there, and a has none; and from its own g to a, where a alone has one
abbrev group_of_capital : List String
group_of_capital =
    "C top - - p t -" ∷ "C A 0 - p t -" ∷ "C a 0 - p s -" ∷ "F g 0 8" ∷ "F g 1 8" ∷ "F g 2 8" ∷ "X c 0 2 a g - g" ∷ "P p" ∷ "T 0 t 0" ∷ "T 0 s 0" ∷
    "E 0 0 g 8 - - G -" ∷ with_x

abbrev group_of_small : List String
group_of_small =
    "C top - - p t -" ∷ "C A 0 - p s -" ∷ "C a 0 - p t -" ∷ "F g 0 8" ∷ "F g 1 8" ∷ "F g 2 8" ∷ "X c 0 2 - g a g" ∷ "P p" ∷ "T 0 t 0" ∷ "T 0 s 0" ∷
    "E 0 0 g 8 - - G -" ∷ with_x

-- the one child in other case; the group's feature in three
abbrev group_spelled : List String
group_spelled =
    "C top - - p t -" ∷ "C a 0 - p t -" ∷ "F grp 0 8" ∷ "F grp 1 8" ∷ "X c 0 2 A GRP - Grp" ∷ "P p" ∷ "T 0 t 0" ∷ "E 0 0 gRP 8 - - G -" ∷ with_x

-- two rows of the second listing, and one of the ported one; a diagnostic of the ported one, and a row of the second
abbrev second_longer : Tables
second_longer = model ("C top - - p t -" ∷ "C a 0 - p t -" ∷ "C A 0 - p t -" ∷ "X c 0 0 a f - g" ∷ [])

abbrev ported_faulty : Tables
ported_faulty = model ("C top - - p t -" ∷ "C A 0 - p t -" ∷ "X c 0 0 a f - g" ∷ [])

-- the rows of `second_longer`: from a, and from A; and of the two children the links
abbrev row_a : List ℕ
row_a = filled row_width (0 ∷ 0 ∷ 1 ∷ 0 ∷ 9 ∷ 11 ∷ 12 ∷ 1 ∷ 0 ∷ [])

abbrev row_A : List ℕ
row_A = filled row_width (0 ∷ 0 ∷ 2 ∷ 0 ∷ 9 ∷ 11 ∷ 12 ∷ 1 ∷ 0 ∷ [])

abbrev two_links : List ℕ
two_links = 1 ∷ missing ∷ missing ∷ 2 ∷ missing ∷ missing ∷ []

-- of `group_of_capital` the traced rows from A and from a, and the group row
abbrev group_traced_A : List ℕ
group_traced_A = filled row_width (0 ∷ 2 ∷ 1 ∷ 0 ∷ 12 ∷ 14 ∷ 15 ∷ 1 ∷ 0 ∷ [])

abbrev group_traced_a : List ℕ
group_traced_a = filled row_width (0 ∷ 2 ∷ 2 ∷ 0 ∷ 12 ∷ 14 ∷ 15 ∷ 1 ∷ 0 ∷ [])

-- and of `group_of_small` the traced rows to A and to a
abbrev group_traced_to_A : List ℕ
group_traced_to_A = filled row_width (0 ∷ 2 ∷ 0 ∷ 1 ∷ 12 ∷ 13 ∷ 15 ∷ 1 ∷ 0 ∷ [])

abbrev group_traced_to_a : List ℕ
group_traced_to_a = filled row_width (0 ∷ 2 ∷ 0 ∷ 2 ∷ 12 ∷ 13 ∷ 15 ∷ 1 ∷ 0 ∷ [])

abbrev group_row_A : List ℕ
group_row_A = filled row_width (0 ∷ 0 ∷ 1 ∷ 0 ∷ 3 ∷ 3 ∷ 3 ∷ 1 ∷ 0 ∷ [])

abbrev pub of_entries : List Trial
of_entries =
    -- a chain that goes on only folded, towards the source; a row keeps the spelling that the names have
    prints-of to_source stepless
    ∷ folded-of to_source ("S     0     3     3     2     2     0     1" ∷ "= c" ∷ "< Cmd" ∷ "> g" ∷ "Z     1     0" ∷ [])
    -- and towards the destination
    ∷ prints-of to_destination stepless
    ∷ folded-of to_destination ("S     0     3     1     3     2     0     1" ∷ "= c" ∷ "< f" ∷ "> Set" ∷ "Z     1     0" ∷ [])
    -- steps by other bytes and by the same ones, in row order; each step asks for the spelling that the one before led to
    ∷ prints-of spelled_twice ("S     0     3     3     2     2     0     2" ∷ "= c" ∷ "< v" ∷ "> g" ∷ "Z     1     0" ∷ [])
    ∷ folded-of spelled_twice
    ("S     0     3     4     2     3     0     1     3" ∷ "= c" ∷ "< w" ∷ "> g" ∷
    "S     0     3     4     2     3     0     2     4" ∷ "= c" ∷ "< x" ∷ "> g" ∷ "Z     2     0" ∷ [])
    -- the children of steps: by bytes the element k[1] and nothing of the name l; folded K and L
    ∷ prints-of spelled_inside ("S     0     3     4     2     2     0     1" ∷ "= c" ∷ "< u" ∷ "> g" ∷ "Z     1     0" ∷ [])
    ∷ folded-of spelled_inside ("S     0     3     3     5     3     0     1     2" ∷ "= c" ∷ "< u" ∷ "> v" ∷ "Z     1     0" ∷ [])
    -- "only A to Z fold"
    ∷ folded-of other_bytes
    ("S     0     3     1     0     1     0" ∷ "= c" ∷ "< @" ∷ "> g" ∷ "S     1     3     1     0     1     1" ∷ "= c" ∷ "< a[" ∷ "> g" ∷
    "S     2     3     1     0     1     2" ∷ "= c" ∷ "< a]" ∷ "> g" ∷ "S     3     3     1     0     1     3" ∷ "= c" ∷ "< a^" ∷ "> g" ∷
    "S     4     3     1     0     1     4" ∷ "= c" ∷ "< a1" ∷ "> g" ∷ "Z     5     0" ∷ [])
    -- 2 and 3 where by bytes there is no child
    ∷ prints-of ends_spelled
    ("D     2     0    10     0" ∷ "! connection 'c': unresolved source subcomponent 'A'" ∷ "@ top" ∷ "@ c" ∷
    "D     3     0    12     0" ∷ "! connection 'c': unresolved destination subcomponent 'B'" ∷ "@ top" ∷ "@ c" ∷ "Z     0     0" ∷ [])
    ∷ folded-of ends_spelled ("S     0     0     1     2     1     0" ∷ "= c" ∷ "< f" ∷ "> g" ∷ "Z     1     0" ∷ [])
    -- one end alone, with features in other case
    ∷ prints-of one_end_spelled
    ("D     2     0     7     0" ∷ "! connection 'c': unresolved source subcomponent 'A'" ∷ "@ top" ∷ "@ c" ∷
    "D     3     1    12     0" ∷ "! connection 'd': unresolved destination subcomponent 'A'" ∷ "@ top" ∷ "@ d" ∷ "Z     0     0" ∷ [])
    ∷ folded-of one_end_spelled
    ("S     0     1     1     0     1     0" ∷ "= c" ∷ "< CMD" ∷ "> g" ∷ "S     1     4     0     1     1     1" ∷ "= d" ∷ "< g" ∷ "> Cmd" ∷ "Z     2     0" ∷ [])
    -- 4: only the folded counts differ; only the counts by bytes do; the array rule gives two, the whole name folded one
    ∷ prints-of two_to_one ("S     0     0     1     3     1     0" ∷ "= c" ∷ "< f" ∷ "> g" ∷ "Z     1     0" ∷ [])
    ∷ folded-of two_to_one
    ("S     0     0     1     3     1     0" ∷ "= c" ∷ "< f" ∷ "> g" ∷ "D     4     0     2     1" ∷
    "! connection 'c': One_To_One pattern requires equal array sizes (source=2, destination=1)" ∷ "@ top" ∷ "@ c" ∷ "Z     1     0" ∷ [])
    ∷ prints-of two_to_two
    ("S     0     0     1     3     1     0" ∷ "= c" ∷ "< f" ∷ "> g" ∷ "D     4     0     2     1" ∷
    "! connection 'c': One_To_One pattern requires equal array sizes (source=2, destination=1)" ∷ "@ top" ∷ "@ c" ∷ "Z     1     0" ∷ [])
    ∷ folded-of two_to_two
    ("S     0     0     1     3     1     0" ∷ "= c" ∷ "< f" ∷ "> g" ∷ "S     0     0     2     4     1     0" ∷ "= c" ∷ "< f" ∷ "> g" ∷ "Z     2     0" ∷ [])
    ∷ prints-of one_to_two
    ("S     0     0     2     4     1     0" ∷ "= c" ∷ "< f" ∷ "> g" ∷ "S     0     0     3     5     1     0" ∷ "= c" ∷ "< f" ∷ "> g" ∷ "Z     2     0" ∷ [])
    ∷ folded-of one_to_two
    ("S     0     0     1     4     1     0" ∷ "= c" ∷ "< f" ∷ "> g" ∷ "D     4     0     1     2" ∷
    "! connection 'c': One_To_One pattern requires equal array sizes (source=1, destination=2)" ∷ "@ top" ∷ "@ c" ∷ "Z     1     0" ∷ [])
    -- the first found child of the group listing: A is the first one folded, so that its group alone counts
    ∷ prints-of group_of_capital ("S     0     2     2     0     1     0" ∷ "= c" ∷ "< g" ∷ "> g" ∷ "Z     1     0" ∷ [])
    ∷ folded-of group_of_capital
    ("S     0     2     1     0     1     0" ∷ "= c" ∷ "< g" ∷ "> g" ∷ "S     0     2     2     0     1     0" ∷ "= c" ∷ "< g" ∷ "> g" ∷
    "S     0     0     1     0     1     0" ∷ "= c.x" ∷ "< g.x" ∷ "> g.x" ∷ "Z     2     1" ∷ [])
    ∷ prints-of group_of_small
    ("S     0     2     0     2     1     0" ∷ "= c" ∷ "< g" ∷ "> g" ∷ "S     0     0     0     2     1     0" ∷ "= c.x" ∷ "< g.x" ∷ "> g.x" ∷ "Z     1     1" ∷ [])
    ∷ folded-of group_of_small
    ("S     0     2     0     1     1     0" ∷ "= c" ∷ "< g" ∷ "> g" ∷ "S     0     2     0     2     1     0" ∷ "= c" ∷ "< g" ∷ "> g" ∷ "Z     2     0" ∷ [])
    -- "skip if none": by bytes there is no child; the group is spelled as in the X row
    ∷ prints-of group_spelled ("D     2     0     9     0" ∷ "! connection 'c': unresolved source subcomponent 'A'" ∷ "@ top" ∷ "@ c" ∷ "Z     0     0" ∷ [])
    ∷ folded-of group_spelled
    ("S     0     2     1     0     1     0" ∷ "= c" ∷ "< GRP" ∷ "> Grp" ∷ "S     0     0     1     0     1     0" ∷ "= c.x" ∷ "< GRP.x" ∷ "> Grp.x" ∷ "Z     1     1" ∷ [])
    -- "Where all names that differ also differ folded, both entries give one list"
    ∷ prints-of apart apart_list
    ∷ folded-of apart apart_list
    -- "The second refuses by the same rules, over its own lists": 11, where only its own is too long, by itself and in one call with the group listing
    ∷ both second_longer None two_links (row_a ∷ [] ∷ [] ∷ [] ∷ [] ∷ [])
    ∷ both_folded second_longer (over 11) (zeros 6) (zeros row_width ∷ [] ∷ [] ∷ [] ∷ [] ∷ [])
    ∷ both_folded second_longer None two_links ((row_a ++ row_A) ∷ [] ∷ [] ∷ [] ∷ [] ∷ [])
    ∷ traces second_longer None two_links row_a []
    ∷ traces_folded second_longer (over 11) (zeros 6) (zeros row_width) []
    -- 12, where only the ported one is too long
    ∷ both ported_faulty (over 12) (zeros 4) (zeros row_width ∷ zeros 3 ∷ [] ∷ [] ∷ [] ∷ [])
    ∷ both_folded ported_faulty None mixed_links (filled row_width (0 ∷ 0 ∷ 1 ∷ 0 ∷ 6 ∷ 8 ∷ 9 ∷ 1 ∷ 0 ∷ []) ∷ zeros 3 ∷ [] ∷ [] ∷ [] ∷ [])
    -- 11 and 14 of the group listing, where only the second one has a row
    ∷ both (model group_of_capital) None two_links (filled (2 * row_width) group_traced_a ∷ [] ∷ [] ∷ [] ∷ [] ∷ [])
    ∷ both_folded (model group_of_capital) (over 11) (zeros 6) (zeros (2 * row_width) ∷ [] ∷ [] ∷ [] ∷ [] ∷ [])
    ∷ both_folded (model group_of_capital) (over 14) (zeros 6) (zeros (2 * row_width) ∷ [] ∷ zeros row_width ∷ [] ∷ zeros 8 ∷ [])
    ∷ both_folded (model group_of_capital) None two_links ((group_traced_A ++ group_traced_a) ∷ [] ∷ group_row_A ∷ [] ∷ bytes_of "c.xg.xg.x" ∷ [])
    ∷ groups (model group_of_capital) None two_links [] [] []
    ∷ groups_folded (model group_of_capital) None two_links group_row_A [] (bytes_of "c.xg.xg.x")
    -- and 11 where only the ported one has a row
    ∷ both (model group_of_small) (over 11) (zeros 6) (zeros (2 * row_width) ∷ [] ∷ [] ∷ [] ∷ [] ∷ [])
    ∷ both_folded (model group_of_small) None two_links ((group_traced_to_A ++ group_traced_to_a) ∷ [] ∷ [] ∷ [] ∷ [] ∷ [])
    -- both listings as the ported entry has them, 5 among them
    ∷ both_folded mixed None mixed_links (traced_row ∷ traced_diag ∷ group_row ∷ group_diag ∷ composed ∷ [])
    -- what both refuse alike: 22 before 11 and 12, and the tables' refusals before 22
    ∷ both_folded mixed (over 22) (zeros 3) (zeros (row_width - 1) ∷ zeros 3 ∷ zeros (row_width - 1) ∷ zeros 3 ∷ zeros 11 ∷ [])
    ∷ both_folded repeated bad_package (zeros 3) (zeros row_width ∷ zeros 4 ∷ zeros row_width ∷ zeros 4 ∷ zeros 12 ∷ [])
    ∷ both_folded parented bad_root (zeros 4) (zeros row_width ∷ zeros 4 ∷ zeros row_width ∷ zeros 4 ∷ zeros 12 ∷ [])
    ∷ lists_folded parented ("R     7     0 C" ∷ [])
    ∷ []

-- ---- 02 (ix): a limit that the buyer sets

-- connection c from a to b; inside a two steps lead on, and inside b one. And the mirror image in other case, so that only the second entry takes a step
abbrev stepped : List String
stepped = across_top ("C k 1 - p t -" ∷ "C l 3 - p t -" ∷ "C m 2 - p t -" ∷ "X d 1 0 k u - f" ∷ "X e 3 0 l v - u" ∷ "X h 2 0 - g m w" ∷ [])

abbrev stepped_spelled : List String
stepped_spelled = across_top ("C k 2 - p t -" ∷ "C l 3 - p t -" ∷ "C m 1 - p t -" ∷ "X d 2 0 - G K u" ∷ "X e 3 0 - U L v" ∷ "X h 1 0 M w - F" ∷ [])

-- the list of `stepped` under the limits from 2 on
abbrev stepped_list : List String
stepped_list = "S     0     3     4     5     4     0     1     2     3" ∷ "= c" ∷ "< v" ∷ "> w" ∷ "Z     1     0" ∷ []

-- 2 and 3, and 4 of each, but no row
abbrev faulty_ends : List String
faulty_ends = "C top - - p t One_To_One" ∷ "C a 0 - p t -" ∷ "X c 0 0 a f z g" ∷ "X d 0 0 y f a g" ∷ []

abbrev faulty_list : List String
faulty_list =
    "D     3     0    10     0" ∷ "! connection 'c': unresolved destination subcomponent 'z'" ∷ "@ top" ∷ "@ c" ∷
    "D     4     0     1     0" ∷ "! connection 'c': One_To_One pattern requires equal array sizes (source=1, destination=0)" ∷ "@ top" ∷ "@ c" ∷
    "D     2     1    13     0" ∷ "! connection 'd': unresolved source subcomponent 'y'" ∷ "@ top" ∷ "@ d" ∷
    "D     4     1     0     1" ∷ "! connection 'd': One_To_One pattern requires equal array sizes (source=0, destination=1)" ∷ "@ top" ∷ "@ d" ∷ "Z     0     0" ∷ []

-- one component and three names
abbrev alone : Tables
alone = model ("C top - - p t -" ∷ [])

abbrev pub of_chosen_limit : List Trial
of_chosen_limit =
    -- "becomes an argument, 0 to 64": under 0 the chains have no step and the row still comes; 1 cuts towards the source alone; 2 cuts nothing
    lists_by same_bytes 0 (model stepped) ("S     0     3     1     2     1     0" ∷ "= c" ∷ "< f" ∷ "> g" ∷ "Z     1     0" ∷ [])
    ∷ lists_by same_bytes 1 (model stepped) ("S     0     3     3     5     3     0     1     3" ∷ "= c" ∷ "< u" ∷ "> w" ∷ "Z     1     0" ∷ [])
    ∷ lists_by same_bytes 2 (model stepped) stepped_list
    -- "the lists are equal exactly when they are the same number or no followed chain has a step beyond the smaller": 2 and 64, though not 1 and 2
    ∷ lists_by same_bytes 64 (model stepped) stepped_list
    -- the second entry, of which 1 cuts the chain towards the destination alone
    ∷ lists_by same_folded 0 (model stepped_spelled) ("S     0     3     1     2     1     0" ∷ "= c" ∷ "< f" ∷ "> g" ∷ "Z     1     0" ∷ [])
    ∷ lists_by same_folded 1 (model stepped_spelled) ("S     0     3     5     3     3     0     3     1" ∷ "= c" ∷ "< w" ∷ "> u" ∷ "Z     1     0" ∷ [])
    -- "places for 129 connections": the path stands in the first of them
    ∷ traces_by same_folded 2 (model stepped) None (1 ∷ missing ∷ 3 ∷ 2 ∷ 5 ∷ missing ∷ 4 ∷ missing ∷ missing ∷ missing ∷ missing ∷ missing ∷ [])
    (filled row_width (0 ∷ 3 ∷ 4 ∷ 5 ∷ 9 ∷ 29 ∷ 34 ∷ 4 ∷ 0 ∷ 1 ∷ 2 ∷ 3 ∷ [])) []
    -- the limit changes no diagnostic, and nothing of the group listing
    ∷ lists_by same_bytes 0 (model faulty_ends) faulty_list
    ∷ both_by same_bytes 0 mixed None mixed_links (traced_row ∷ traced_diag ∷ group_row ∷ group_diag ∷ composed ∷ [])
    -- "A limit above 64 is refused as 19", which has no place; every output holds zeros
    ∷ lists_by same_bytes 65 (model stepped) ("R    19     0 -" ∷ [])
    ∷ lists_by same_folded 18446744073709551615 (model stepped) ("R    19     0 -" ∷ [])
    ∷ traces_by same_bytes 65 mixed (over 19) (zeros 4) (zeros row_width) (zeros 4)
    ∷ both_by same_folded 65 mixed (over 19) (zeros 4) (zeros row_width ∷ zeros 4 ∷ zeros row_width ∷ zeros 4 ∷ zeros 12 ∷ [])
    -- "before 10", and so before 6, 7 and 22
    ∷ traces_by same_bytes 65 (change alone letter_n (λ t. t ++ (0 ∷ []))) (over 19) (zeros 2) [] []
    ∷ both_by same_folded 65 (change alone letter_c (λ t. set t 0 3)) (over 19) (zeros 2) ([] ∷ [] ∷ [] ∷ [] ∷ [] ∷ [])
    ∷ traces_by same_folded 65 (change alone letter_c (λ t. set t 1 0)) (over 19) (zeros 2) [] []
    ∷ both_by same_bytes 65 alone (over 19) (zeros 1) ([] ∷ [] ∷ [] ∷ [] ∷ [] ∷ [])
    -- a lent output of text
    ∷ fills_by 65 root_sheet (filled 63 (text ("R    19     0 -" ∷ [])))
    ∷ []

-- ---- what conlist lends

-- 63 rows of 128 bytes and one of 114 (or 115): with the `Z` line 8,192 bytes of text (or 8,193)
abbrev full : String → Tables
full last =
    model
    ("C top - - p t -" ∷ replicate 7 "C a 0 - p t -" ++ replicate 9 "C b 0 - p t -" ++
    ("C s 0 - p t -" ∷ "C d 0 - p t -" ∷ "X nnnnnnnnnnnnnnnnnnnnnnnnnnn 0 0 a sssssssssssssssssssssssssss b ddddddddddddddddddddddddddd" ∷ last ∷ []))

-- eleven features, six of 60 bytes and five of 61: with a connection name of 62 bytes 4,096 bytes of composed names
abbrev wide : String → ℕ → ℕ → Tables
wide connection n m =
    model
    ("C top - - p t -" ∷ "F ggggggggggggggggggggggggggggggggggggggggggggggggggggggggggggggg 0 8" ∷ connection ∷ "P p" ∷ "T 0 t 0" ∷ "E 0 0 ggggggggggggggggggggggggggggggggggggggggggggggggggggggggggggggg 8 - - G -" ∷ "U 0 G 0 - - - - - -" ∷
    replicate n "E 1 0 ffffffffffffffffffffffffffffffffffffffffffffffffffffffffffff 0 - - - -" ++ replicate m "E 1 0 fffffffffffffffffffffffffffffffffffffffffffffffffffffffffffff 0 - - - -")

-- n connections from a group of k features to one of none
abbrev unmatched : ℕ → ℕ → Tables
unmatched n k =
    model
    ("C top - - p t -" ∷ "F g 0 8" ∷ "F h 0 8" ∷ "P p" ∷ "T 0 t 0" ∷ "E 0 0 g 8 - - A -" ∷ "E 0 0 h 8 - - B -" ∷ "U 0 A 0 - - - - - -" ∷
    replicate n "X c 0 2 - g - h" ++ replicate k "E 1 0 x 0 - - - -")

abbrev pub of_conlist : List Trial
of_conlist =
    -- "lends 256 `N` rows, 96 of each other letter, a byte table of 16,384": so many numbers
    lends (16384 ∷ 512 ∷ 864 ∷ 288 ∷ 672 ∷ 96 ∷ 192 ∷ 288 ∷ 384 ∷ 864 ∷ 768 ∷ 480 ∷ 288 ∷ [])
    -- "per listing 64 rows", "8,192 for text"
    ∷ length_is (full "X nnnnnnnnnnnnnnnnnnnnnn 0 0 s ssssssssssssssssssssss d ddddddddddddddddddddddd") 8192
    ∷ lists (full "X nnnnnnnnnnnnnnnnnnnnnnn 0 0 s ssssssssssssssssssssss d ddddddddddddddddddddddd") ("R    15     0 -" ∷ [])
    ∷ lists (model ("C top - - p t -" ∷ replicate 5 "C a 0 - p t -" ++ replicate 13 "C b 0 - p t -" ++ ("X c 0 0 a f b g" ∷ []))) ("R    11     0 -" ∷ [])
    -- "and 64 diagnostics": 64 of them fit, and their text does not
    ∷ lists (unmatched 8 8) ("R    15     0 -" ∷ [])
    ∷ lists (unmatched 5 13) ("R    12     0 -" ∷ [])
    -- "4,096 bytes for composed names"
    ∷ length_is (wide "X cccccccccccccccccccccccccccccccccccccccccccccccccccccccccccccc 0 2 - ggggggggggggggggggggggggggggggggggggggggggggggggggggggggggggggg - ggggggggggggggggggggggggggggggggggggggggggggggggggggggggggggggg" 6 5) (4096 + 11 * 47 + 14)
    ∷ lists (wide "X ccccccccccccccccccccccccccccccccccccccccccccccccccccccccccccc 0 2 - ggggggggggggggggggggggggggggggggggggggggggggggggggggggggggggggg - ggggggggggggggggggggggggggggggggggggggggggggggggggggggggggggggg" 2 9) ("R    14     0 -" ∷ [])
    ∷ []

-- ---- 13 of groups that are expanded

-- connection c from a: A has a group of 75,024 visits, and a has none
abbrev bushy_of_capital : List String
bushy_of_capital =
    "C top - - p s -" ∷ "C A 0 - p t -" ∷ "C a 0 - p s -" ∷ "F g 0 8" ∷ "F g 1 8" ∷ "X c 0 2 a g - g" ∷ "P p" ∷ "T 0 t 0" ∷ "T 0 s 0" ∷
    "E 0 0 g 8 - - G -" ∷ with_many

abbrev pub of_visits : List Trial
of_visits =
    -- with enough links 13 strikes as before
    groups bushy (over 13) (zeros 2) [] [] []
    -- 02 (vi): where only the first found child of the second entry has the group
    ∷ prints-of bushy_of_capital ("S     0     2     2     0     1     0" ∷ "= c" ∷ "< g" ∷ "> g" ∷ "Z     1     0" ∷ [])
    ∷ folded-of bushy_of_capital ("R    13     0 -" ∷ [])
    ∷ []

-- ---- 02 (xi): operation modes

-- component 0 and, in it, a (1), b (2) and d (3)
abbrev four : List String → Tables
four ls = model ("C top - - p t - 0" ∷ "C a 0 - p t - 9" ∷ "C b 0 - p t - 8" ∷ "C d 0 - p t - 7" ∷ ls)

-- so many modes of component 0, and of a
abbrev many : ℕ → ℕ → Tables
many k l = four (replicate k "M on 0 1" ++ replicate l "M off 1 0")

-- two modes of d and two of a, in other rows than in order of components
abbrev twice : Tables
twice = four ("M x 3 0" ∷ "M yy 1 1" ∷ "M z 3 1" ∷ "M w 1 0" ∷ [])

-- the same as a sheet
abbrev mode_sheet : List ℕ
mode_sheet =
    text
    ("N top" ∷ "N a" ∷ "N x" ∷ "N yy" ∷ "N z" ∷ "N w" ∷ "C     0     -                   -     0     0     -     0" ∷ "C     1     0                   -     0     0     -     9" ∷
    "C     1     0                   -     0     0     -     8" ∷ "C     1     0                   -     0     0     -     7" ∷ "M     2     3     0" ∷
    "M     3     1     1" ∷ "M     4     3     1" ∷ "M     5     1     0" ∷ [])

abbrev pub of_modes : List Trial
of_modes =
    -- "Components with modes and their modes come in row order; the last one's mode changes fastest"
    grows 10000 (four ("M x 3 0" ∷ "M y 1 1" ∷ "M z 3 1" ∷ "M w 1 0" ∷ "M v 1 0" ∷ []))
    ((1 ∷ 0 ∷ []) ∷ (1 ∷ 2 ∷ []) ∷ (3 ∷ 0 ∷ []) ∷ (3 ∷ 2 ∷ []) ∷ (4 ∷ 0 ∷ []) ∷ (4 ∷ 2 ∷ []) ∷ []) false
    -- "With no modes at all the number is 0 and nothing is cut"
    ∷ grows 10000 (four []) [] false
    ∷ counts_modes (four []) None 0 false
    ∷ grows 10000 (four ("M x 0 0" ∷ [])) ((0 ∷ []) ∷ []) false
    -- "If the growing list passes 10,000 at a component, its first 10,000 selections count and later components are missing from each": under other
    -- limits, exactly met, passed at the last component, and before it
    ∷ grows 6 (four ("M x 0 0" ∷ "M y 0 0" ∷ "M x 1 0" ∷ "M y 1 0" ∷ "M z 1 0" ∷ [])) ((0 ∷ 2 ∷ []) ∷ (0 ∷ 3 ∷ []) ∷ (0 ∷ 4 ∷ []) ∷ (1 ∷ 2 ∷ []) ∷ (1 ∷ 3 ∷ []) ∷ (1 ∷ 4 ∷ []) ∷ []) false
    ∷ grows 5 (four ("M x 0 0" ∷ "M y 0 0" ∷ "M x 1 0" ∷ "M y 1 0" ∷ "M z 1 0" ∷ [])) ((0 ∷ 2 ∷ []) ∷ (0 ∷ 3 ∷ []) ∷ (0 ∷ 4 ∷ []) ∷ (1 ∷ 2 ∷ []) ∷ (1 ∷ 3 ∷ []) ∷ []) true
    ∷ grows 3 (four ("M x 0 0" ∷ "M y 0 0" ∷ "M x 1 0" ∷ "M y 1 0" ∷ "M x 2 0" ∷ "M y 2 0" ∷ [])) ((0 ∷ 2 ∷ []) ∷ (0 ∷ 3 ∷ []) ∷ (1 ∷ 2 ∷ []) ∷ []) true
    ∷ grows 4 (four ("M x 0 0" ∷ "M y 0 0" ∷ "M x 1 0" ∷ "M y 1 0" ∷ "M x 2 0" ∷ "M y 2 0" ∷ [])) ((0 ∷ 2 ∷ 4 ∷ []) ∷ (0 ∷ 2 ∷ 5 ∷ []) ∷ (0 ∷ 3 ∷ 4 ∷ []) ∷ (0 ∷ 3 ∷ 5 ∷ []) ∷ []) true
    ∷ grows 2 (four ("M x 0 0" ∷ "M y 0 0" ∷ "M z 0 0" ∷ "M x 1 0" ∷ [])) ((0 ∷ []) ∷ (1 ∷ []) ∷ []) true
    -- 100 times 100 is 10,000, and 73 times 137 is 10,001
    ∷ counts_modes (many 100 100) None 10000 false
    ∷ counts_modes (many 73 137) None 10000 true
    ∷ selects (many 73 137) 9999 None (72 ∷ 208 ∷ []) (bytes_of "on_off")
    ∷ selects (many 73 137) 10000 (over 20) (zeros 2) (zeros 6)
    -- "the mode names are joined by an underscore"; "as `M` rows with the joined name"; unused output is zero
    ∷ selects twice 1 None (1 ∷ 2 ∷ 0 ∷ []) (bytes_of "yy_z" ++ (0 ∷ []))
    ∷ selects twice 3 None (3 ∷ 2 ∷ []) (bytes_of "w_z")
    ∷ selects (four ("M x 2 0" ∷ [])) 0 None (0 ∷ []) (bytes_of "x")
    -- two selections of which the joined names are equal
    ∷ selects (four ("M a 0 0" ∷ "M a_b 0 0" ∷ "M b_c 1 0" ∷ "M c 1 0" ∷ [])) 0 None (0 ∷ 2 ∷ []) (bytes_of "a_b_c")
    ∷ selects (four ("M a 0 0" ∷ "M a_b 0 0" ∷ "M b_c 1 0" ∷ "M c 1 0" ∷ [])) 3 None (1 ∷ 3 ∷ []) (bytes_of "a_b_c")
    -- "A selection number not below the number of selections is refused as 20, after the tables' checks"; "then the existing 11", then 14
    ∷ selects twice 4 (over 20) [] []
    ∷ selects twice 5 (over 20) (zeros 2) (zeros 4)
    ∷ selects twice 3 (over 11) (zeros 1) (zeros 2)
    ∷ selects twice 3 (over 14) (zeros 2) (zeros 2)
    ∷ selects (four []) 0 (over 20) (zeros 2) (zeros 2)
    ∷ selects (four ("M x 4 0" ∷ [])) 9 (Some (refusal 6 (row letter_m 0))) (zeros 2) (zeros 2)
    ∷ counts_modes (four ("M x 0 2" ∷ [])) (Some (refusal 6 (row letter_m 0))) 0 false
    -- the programs
    ∷ modes_prints mode_sheet ("Z     4     0" ∷ [])
    ∷ mode_prints mode_sheet 2 ("M     3     0" ∷ "= w_x" ∷ [])
    ∷ mode_prints mode_sheet 4 ("R    20     0 -" ∷ [])
    ∷ modes_prints [] ("R     7     0 C" ∷ [])
    ∷ mode_prints (bytes_of "M") 0 ("R     2     1 -" ∷ [])
    ∷ []
