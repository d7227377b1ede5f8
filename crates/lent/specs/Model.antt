-- The model that lent tables are, and the models of any contents that have some of a model's tables. Assumes nothing.
use Rattle.std.specs.Prelude.{[]}
use Rattle.as5506.specs.Tables.{Tables as TheTables, tables_of}
use Rattle.lent.specs.declared.tables.Tables.{Tables}

abbrev pub model : Tables → TheTables
model m = tables_of m.bytes.now m.n.now m.c.now m.f.now m.x.now m.p.now m.i.now m.t.now m.q.now m.u.now m.e.now m.r.now m.m.now

-- ---- a model o, whatever its tables are, with those of m in the place of its own that an answer asks for

-- names, and what a reference is resolved by: packages, imports, types, implementations, group types and renames
abbrev pub with_packages : (m o : TheTables) → TheTables
with_packages m o = tables_of m.bytes m.n o.c o.f o.x m.p m.i m.t m.q m.u o.e m.r o.m

-- these, and the features that types declare
abbrev pub with_groups : (m o : TheTables) → TheTables
with_groups m o = tables_of m.bytes m.n o.c o.f o.x m.p m.i m.t m.q m.u m.e m.r o.m

-- these, and components with their features
abbrev pub with_components : (m o : TheTables) → TheTables
with_components m o = tables_of m.bytes m.n m.c m.f o.x m.p m.i m.t m.q m.u m.e m.r o.m

-- ---- a model of names, components and connections alone

abbrev pub wiring_of : TheTables → TheTables
wiring_of m = tables_of m.bytes m.n m.c [] m.x [] [] [] [] [] [] [] []
