-- THE TABLE OF TRIALS of document 01: the starred ones and its three traps, then further ones, so that each rule is touched; ONE list, and one proof
-- that antt computes. What a trial is stands in TrialForms, the further ones in TrialsRead, TrialsFind and TrialsList. Assumes nothing.
use mathlib.Core.Bool.{true, false}
use mathlib.Core.Path.{◌≡◌, refl}
use mathlib.Core.List.{List, [], ◌∷◌, ◌++◌, map}
use Prim.Native.Nat.{ℕ, zero, suc, ◌+◌}
use Prim.Native.String.{String}
use lib.Dec.{T}
use lib.ListN.{length}
use Rattle.std.specs.Prelude.{Some}
use Rattle.as5506.specs.Lists.{each, same_bytes, bytes_of, up_to, padded, sort_by}
use Rattle.as5506.specs.Tables.{Tables, missing, rows_naming, name_in}
use Rattle.as5506.specs.Names.{good_name, folded, key, same_folded, base_name, is_one_to_one}
use Rattle.as5506.specs.Fields.{unspaced, decimal_from, is_decimal, is_number, field_of, fields_fit, field_numbers}
use Rattle.as5506.specs.Sheet.{line_with, lines_of, letter_of, lines_with, keeps_rules, has_place, is_earlier, line_faults, faults_from, sheet_faults, placed, rows_read, tables_read, read_sheet, table_after, bytes_after}
use Rattle.as5506.specs.Refusals.{broken_rows, too_many_rows, bad_name, faults10, allows_from, bad_row, faults6, faults7, clashes_from, clashes, faults16, faults8, faults9, faults, accepted}
use Rattle.as5506.specs.Before.{has_place_before, line_faults_before, lines_faults_before, tables_read_before, read_before, faults10_before, allows_from_before, faults6_before, faults7_before, faults16_before, faults_before, padded_sheet}
use Rattle.as5506.specs.Resolve.{package_named, type_named, impl_named, group_named, renames_named, type_hit, in_package_by, in_package, in_found, replaced_by, replaced, in_named, with_package, from_imports, target, renames_for, after_rename, after_own, without_package, resolve_by, resolve}
use Rattle.as5506.specs.Groups.{turned, feature_by, features_walked, extended_by, type_by, found_by, visit_within, expand_feature_group, expand}
use Rattle.as5506.specs.Tracing.{is_named, is_element, or_elements, found_children, leads, steps_over, steps, chains_by, chains, shape, named, one_to_one, pairs_by, pairs, append_new, row_of, pair_rows, rows_at, traced, shown, rows, unlimited, diags_by, diags_at, traced_diags}
use Rattle.as5506.specs.Links.{first_child, siblings_behind, next_sibling, link_row, link_table, walk}
use Rattle.as5506.specs.GroupList.{is_group_feature, type_of, declared_group, classifier_by, declared_by, typed_by, endpoint_by, endpoint, is_group_connection, end_component_by, end_component, group_connection, group_connections, overrun, partner, matches_by, matches, dotted, full_name, connection_kind, match_row, match_diag, rows_matched, diags_matched}
use Rattle.as5506.specs.Listing.{expansion_within, expand_on, expand_answer, traced_list, traced_within, row_names, group_within, group_list_of, group_of, traced_on, traced_answer, group_on, group_answer, with_group, after_traced, both_answer}
use Rattle.as5506.specs.Layout.{feature_block, expansion_numbers, traced_block, group_block, diag_block, traced_row_numbers, traced_diag_numbers, group_row_numbers, group_diag_numbers, composed_names}
use Rattle.as5506.specs.Text.{digits_within, digits, column, number_line, text_line, row_text, message, path_names, diag_text, list_text, modes_line, selection_lines, refusal_text, text_within}
use Rattle.as5506.specs.Modes.{modal, grown, selections_of, combinations, selections, underscored, joined_name, modes_counted, modes_on, modes_answer, selection_at, selection_within, selection_on, selection_answer}
use Rattle.as5506.specs.Program.{text_or_refusal, printed_or_refusal, conlist_text, modes_text, mode_text, of_reading, what_fits, conlist_within, text_after, conlist, conlist_ignoring_case, modes, mode}
use Rattle.as5506.proofs.Laws.{All}
use Rattle.as5506.proofs.TrialForms.{Trial, Means, prints_by, prints, prints_folded_by, prints_folded, lists, lists_folded, pattern, children, expands, whole_by, whole, whole_folded, cut_by, cut, cut_folded, text, component_rows, offsets, every, all-meant}
use Rattle.as5506.proofs.TrialsRead.{of_names, of_sheets, of_index, of_lent, of10, of6, of7to9, of16}
use Rattle.as5506.proofs.TrialsFind.{of_packages, of_searches, of_groups, of_children, of_spellings}
use Rattle.as5506.proofs.TrialsList.{of_chains, of_places, of_shapes, of_matching, of_endpoints, of_rooms, of_links, of_entries, of_chosen_limit, of_conlist, of_visits, of_modes}

-- ---- models made by rule

abbrev joined : List (List ℕ) → List ℕ
joined ls = each (λ l. l) ls

-- names, components, connections, packages, group types, declared features
abbrev made : List (List ℕ) → List (List ℕ) → List (List ℕ) → List ℕ → List (List ℕ) → List (List ℕ) → Tables
made ns cs xs ps us es =
    record { bytes = joined ns; n = offsets 0 ns; c = component_rows 0 cs; f = []; x = joined xs; p = ps; i = []; t = []; q = []; u = joined us; e = joined es; r = []; m = [] }

-- a component, whose place is its row
abbrev comp : ℕ → ℕ → ℕ → List ℕ
comp name parent index = name ∷ parent ∷ index ∷ 0 ∷ 0 ∷ missing ∷ []

abbrev conn : ℕ → ℕ → ℕ → ℕ → ℕ → ℕ → List ℕ
conn name owner ssub sfeat dsub dfeat = name ∷ owner ∷ 0 ∷ ssub ∷ sfeat ∷ dsub ∷ dfeat ∷ []

-- n components of name 1, one in the other: the first, i, in p; and the connections of feature 3 upward through them
abbrev nest : ℕ → ℕ → ℕ → List (List ℕ)
nest p i zero = []
nest p i (suc n) = comp 1 p missing ∷ nest i (suc i) n

abbrev ups : ℕ → ℕ → ℕ → List (List ℕ)
ups p i zero = []
ups p i (suc n) = conn 3 p 1 3 missing 3 ∷ ups i (suc i) n

-- component 0 holds b (1) and a (2); connection 0 leads from a to b; a source chain of n steps inside a
abbrev pub chain : ℕ → Tables
chain n =
    made (map bytes_of ("r" ∷ "a" ∷ "b" ∷ "f" ∷ []))
    (comp 0 missing missing ∷ comp 2 0 missing ∷ comp 1 0 missing ∷ nest 2 3 n)
    (conn 3 0 1 3 2 3 ∷ ups 2 3 n) [] [] []

-- the mirror image: b leads to a, with a destination chain of n steps inside a
abbrev downs : ℕ → ℕ → ℕ → List (List ℕ)
downs p i zero = []
downs p i (suc n) = conn 3 p missing 3 1 3 ∷ downs i (suc i) n

abbrev pub mirror : ℕ → Tables
mirror n =
    made (map bytes_of ("r" ∷ "a" ∷ "b" ∷ "f" ∷ []))
    (comp 0 missing missing ∷ comp 2 0 missing ∷ comp 1 0 missing ∷ nest 2 3 n)
    (conn 3 0 2 3 1 3 ∷ downs 2 3 n) [] [] []

-- as `chain`, but each step names the child, and the feature that the step before leads to, in other case: folded a source chain of n steps, by bytes of none
abbrev spelled_ups : ℕ → ℕ → ℕ → List (List ℕ)
spelled_ups p i zero = []
spelled_ups p i (suc n) = conn 3 p 5 3 missing 4 ∷ spelled_ups i (suc i) n

abbrev pub spelled : ℕ → Tables
spelled n =
    made (map bytes_of ("r" ∷ "a" ∷ "b" ∷ "f" ∷ "F" ∷ "A" ∷ []))
    (comp 0 missing missing ∷ comp 2 0 missing ∷ comp 1 0 missing ∷ nest 2 3 n)
    (conn 3 0 1 3 2 3 ∷ spelled_ups 2 3 n) [] [] []

-- one to one, 3 against 2: the third a, which is paired with nothing, holds a chain of n steps
abbrev unpaired : ℕ → Tables
unpaired n =
    made (map bytes_of ("r" ∷ "a" ∷ "b" ∷ "f" ∷ "One_To_One" ∷ []))
    ((0 ∷ missing ∷ missing ∷ 0 ∷ 0 ∷ 4 ∷ []) ∷ comp 1 0 missing ∷ comp 1 0 missing ∷ comp 2 0 missing ∷ comp 2 0 missing ∷ comp 1 0 missing ∷ nest 5 6 n)
    (conn 3 0 1 3 2 3 ∷ ups 5 6 n) [] [] []

-- the children "pump" and "pump[1]" of component 0
abbrev pumps : Tables
pumps = made (map bytes_of ("r" ∷ "pump" ∷ "pump[1]" ∷ [])) (comp 0 missing missing ∷ comp 1 0 missing ∷ comp 2 0 1 ∷ []) [] [] [] []

-- group types of names 2, 3, .. in package p (name 0), each extends the next: n extensions; the last one has the feature f (name 1)
abbrev extending : ℕ → ℕ → List (List ℕ)
extending k zero = (0 ∷ k ∷ 0 ∷ missing ∷ missing ∷ missing ∷ missing ∷ missing ∷ missing ∷ []) ∷ []
extending k (suc n) = (0 ∷ k ∷ 0 ∷ missing ∷ suc k ∷ missing ∷ missing ∷ missing ∷ missing ∷ []) ∷ extending (suc k) n

abbrev extensions : ℕ → Tables
extensions n =
    made (map bytes_of ("p" ∷ "f" ∷ []) ++ map (λ i. (97 + i) ∷ []) (up_to (suc n)))
    (comp 0 missing missing ∷ []) [] (0 ∷ []) (extending 2 n) ((1 ∷ n ∷ 1 ∷ 0 ∷ missing ∷ missing ∷ missing ∷ missing ∷ []) ∷ [])

-- ---- the sheets

-- "the run above"
abbrev run_sheet : List ℕ
run_sheet =
    text
    ("N hub" ∷ "N pit" ∷ "N mot" ∷ "N cmd" ∷ "N set" ∷ "N c1" ∷ "N c2" ∷ "N p" ∷ "N t" ∷ "N reg" ∷
    "C     0     -                   -     7     8     -     0" ∷ "C     1     0                   -     7     8     -     0" ∷
    "C     2     0                   -     7     8     -     1" ∷ "C     9     1                   -     7     8     -     0" ∷
    "X     5     0     0     1     3     2     4" ∷ "X     6     1     0     9     4     -     3" ∷ [])

abbrev run : Trial
run = prints run_sheet ("S     0     0     3     2     2     0     1" ∷ "= c1" ∷ "< set" ∷ "> set" ∷ "Z     1     0" ∷ [])

-- "One to one, 3 against 2: one diagnostic, 2 pairs"
abbrev uneven : Trial
uneven =
    prints
    (text ("N top" ∷ "N p" ∷ "N t" ∷ "N One_To_One" ∷ "N a[1]" ∷ "N a[2]" ∷ "N a[3]" ∷ "N b[1]" ∷ "N b[2]" ∷ "N c" ∷ "N a" ∷
    "N f" ∷ "N b" ∷ "N g" ∷ "C     0     -                   -     1     2     3     0" ∷ "C     4     0                   1     1     2     -     0" ∷
    "C     5     0                   2     1     2     -     1" ∷ "C     6     0                   3     1     2     -     2" ∷
    "C     7     0                   1     1     2     -     3" ∷ "C     8     0                   2     1     2     -     4" ∷
    "X     9     0     0    10    11    12    13" ∷ []))
    ("S     0     0     1     4     1     0" ∷ "= c" ∷ "< f" ∷ "> g" ∷ "S     0     0     2     5     1     0" ∷
    "= c" ∷ "< f" ∷ "> g" ∷ "D     4     0     3     2" ∷
    "! connection 'c': One_To_One pattern requires equal array sizes (source=3, destination=2)" ∷ "@ top" ∷ "@ c" ∷
    "Z     2     0" ∷ [])

-- n components below component 0, each the child of the one before, and through them the connections of the feature f: connection 0 has a source chain of
-- n - 1 steps
abbrev nested_sheet : ℕ → List ℕ
nested_sheet n =
    text ("N r" ∷ "N a" ∷ "N f" ∷ "C     0     -                   -     0     0     -     0" ∷ [])
    ++ each (λ i. bytes_of "C     1" ++ column i ++ text ("                   -     0     0     -     0" ∷ [])) (up_to n)
    ++ each (λ i. bytes_of "X     2" ++ column i ++ text ("     0     1     2     -     2" ∷ [])) (up_to n)

-- what is printed of it where the chain of connection 0 ends after 20 steps
abbrev nested_list : List String
nested_list =
    "S     0     0    21     0    21     0     1     2     3     4     5     6     7     8     9    10    11    12    13    14    15    16    17    18    19    20" ∷
    "= f" ∷ "< f" ∷ "> f" ∷ "Z     1     0" ∷ []

-- connection d leads to F inside a, and connection c begins at f of a
abbrev in_other_case : List ℕ
in_other_case =
    text
    ("N top" ∷ "N p" ∷ "N t" ∷ "N a" ∷ "N z" ∷ "N k" ∷ "N c" ∷ "N f" ∷ "N g" ∷ "N d" ∷ "N H" ∷ "N F" ∷
    "C     0     -                   -     1     2     -     0" ∷ "C     3     0                   -     1     2     -     0" ∷
    "C     4     0                   -     1     2     -     1" ∷ "C     5     1                   -     1     2     -     0" ∷
    "X     6     0     0     3     7     4     8" ∷ "X     9     1     0     5    10     -    11" ∷ [])

-- "Traps: folding in tracing"
abbrev unfolded : Trial
unfolded = prints in_other_case ("S     0     0     1     2     1     0" ∷ "= c" ∷ "< f" ∷ "> g" ∷ "Z     1     0" ∷ [])

-- "own features beside inverse_of"
abbrev inverse : Trial
inverse =
    prints
    (text ("N top" ∷ "N p" ∷ "N t" ∷ "N a" ∷ "N b" ∷ "N g" ∷ "N c" ∷ "N G" ∷ "N H" ∷ "N own" ∷ "N other" ∷
    "C     0     -                   -     1     2     -     0" ∷ "C     3     0                   -     1     2     -     0" ∷
    "C     4     0                   -     1     2     -     1" ∷ "F     5     1     8" ∷ "F     5     2     8" ∷
    "X     6     0     2     3     5     4     5" ∷ "P     1" ∷ "T     0     2     0" ∷
    "U     0     7     0     -     -     -     -     8     -" ∷
    "U     0     8     0     -     -     -     -     -     -" ∷ "E     1     0     9     0     0     -     -     -" ∷
    "E     1     1    10     0     0     -     -     -" ∷ "E     0     0     5     8     -     -     7     -" ∷ []))
    ("S     0     2     1     2     1     0" ∷ "= c" ∷ "< g" ∷ "> g" ∷ "S     0     0     1     2     1     0" ∷
    "= c.other" ∷ "< g.other" ∷ "> g.other" ∷ "Z     1     1" ∷ [])

-- "imports after a failed rename"
abbrev imports : Trial
imports =
    prints
    (text ("N top" ∷ "N p" ∷ "N t" ∷ "N a" ∷ "N b" ∷ "N g" ∷ "N c" ∷ "N q" ∷ "N G" ∷ "N x" ∷ "N nowhere" ∷
    "C     0     -                   -     1     2     -     0" ∷ "C     3     0                   -     1     2     -     0" ∷
    "C     4     0                   -     1     2     -     1" ∷ "F     5     1     8" ∷ "F     5     2     8" ∷
    "X     6     0     2     3     5     4     5" ∷ "P     1" ∷ "P     7" ∷ "I     0     7" ∷ "T     0     2     0" ∷
    "U     1     8     0     -     -     -     -     -     -" ∷ "E     1     0     9     0     -     -     -     -" ∷
    "E     0     0     5     8     -     -     8     -" ∷ "R     0     2     8    10     8" ∷ []))
    ("S     0     2     1     2     1     0" ∷ "= c" ∷ "< g" ∷ "> g" ∷ "Z     1     0" ∷ [])

-- ---- THE TABLE

-- the starred trial rows of document 01, in its order
abbrev pub starred : List Trial
starred =
    run
    ∷ prints [] ("R     7     0 C" ∷ [])
    ∷ pattern (bytes_of "((One_To_One))") true
    ∷ pattern (bytes_of "(One_To_One, One_To_One)") false
    ∷ uneven
    ∷ children pumps 0 "pump" (1 ∷ [])
    ∷ expands (extensions 10) 0 2 ("f 0 -" ∷ []) 11
    ∷ expands (extensions 11) 0 2 [] 12
    ∷ whole (chain 20)
    ∷ cut (chain 21)
    ∷ []

-- "Traps: folding in tracing; own features beside inverse_of; imports after a failed rename"
abbrev traps : List Trial
traps = unfolded ∷ inverse ∷ imports ∷ []

-- the limit of steps on either side, and what it does not count
abbrev of_limit : List Trial
of_limit =
    -- "or after 20 steps": the row is still there, with 21 connections in its path
    lists (chain 21)
    ("S     0     0    22     1    21     0     1     2     3     4     5     6     7     8     9    10    11    12    13    14    15    16    17    18    19    20" ∷
    "= f" ∷ "< f" ∷ "> f" ∷ "Z     1     0" ∷ [])
    -- "Towards the destination, its mirror image"
    ∷ whole (mirror 20)
    ∷ cut (mirror 21)
    -- "Followed are the chains .. that start from a child these rules pair"
    ∷ whole (unpaired 21)
    ∷ []

-- 02 (vi): sheets through the second entry, and "the step-limit statement is shown for both readings": chains that only the second one follows
abbrev of_folded : List Trial
of_folded =
    prints_folded in_other_case ("S     0     0     3     2     2     0     1" ∷ "= c" ∷ "< H" ∷ "> g" ∷ "Z     1     0" ∷ [])
    ∷ prints_folded [] ("R     7     0 C" ∷ [])
    ∷ prints_folded (bytes_of "N") ("R     2     1 -" ∷ [])
    ∷ whole (spelled 21)
    ∷ whole_folded (spelled 20)
    ∷ cut_folded (spelled 21)
    ∷ lists_folded (spelled 21)
    ("S     0     0    22     1    21     0     1     2     3     4     5     6     7     8     9    10    11    12    13    14    15    16    17    18    19    20" ∷
    "= f" ∷ "< f" ∷ "> f" ∷ "Z     1     0" ∷ [])
    -- chains that both follow
    ∷ whole_folded (mirror 20)
    ∷ cut_folded (mirror 21)
    ∷ []

-- 02 (ix): the programs under a limit that is named, and under 20 "wherever none is named"; rows under limits beside 20
abbrev of_named_limit : List Trial
of_named_limit =
    prints_by (Some 0) run_sheet ("S     0     0     1     2     1     0" ∷ "= c1" ∷ "< cmd" ∷ "> set" ∷ "Z     1     0" ∷ [])
    ∷ prints_folded_by (Some 0) in_other_case ("S     0     0     1     2     1     0" ∷ "= c" ∷ "< f" ∷ "> g" ∷ "Z     1     0" ∷ [])
    -- "after 5 and before 10": behind 2 and 4, and before the 7 of an empty sheet
    ∷ prints_by (Some 65) (bytes_of "N") ("R     2     1 -" ∷ [])
    ∷ prints_folded_by (Some 65) (text ("N" ∷ [])) ("R     4     1 -" ∷ [])
    ∷ prints_by (Some 65) [] ("R    19     0 -" ∷ [])
    ∷ prints_folded_by (Some 65) [] ("R    19     0 -" ∷ [])
    -- "20 holds wherever none is named"
    ∷ prints (nested_sheet 22) nested_list
    ∷ prints_folded (nested_sheet 22) nested_list
    -- 19 cuts a chain of 20 steps, and 21 does not cut one of 21
    ∷ cut_by same_folded 19 (spelled 20)
    ∷ whole_by same_bytes 21 (mirror 21)
    -- no chain that is followed has a step beyond 0
    ∷ whole_by same_bytes 0 (unpaired 1)
    ∷ []

-- A TRIAL FOR EACH RULE; the quick ones first, since a definition that differs is refused at the first trial that fails
abbrev pub further : List Trial
further =
    of_names ++ of_index ++ of_lent ++ of10 ++ of7to9 ++ of16 ++ of_packages ++ of_searches ++ of_groups ++ of_children ++ of_spellings ++ of_chains ++ of_places ++ of_shapes ++ of_matching
    ++ of_endpoints ++ of_rooms ++ of_folded ++ of_entries ++ of_chosen_limit ++ of_named_limit ++ of_links ++ of_sheets ++ of_limit ++ of6 ++ of_conlist ++ of_visits ++ of_modes

abbrev pub trial_table : List Trial
trial_table = starred ++ traps ++ further

-- how many there are
trials-counted : length trial_table ≡ 776
trials-counted = refl

-- ---- THE PROOF

table-passes : T (every trial_table)
unfolding padded sort_by rows_naming name_in good_name folded key same_folded base_name is_one_to_one unspaced decimal_from is_decimal is_number field_of fields_fit field_numbers line_with lines_of letter_of lines_with keeps_rules has_place is_earlier line_faults faults_from sheet_faults placed rows_read tables_read read_sheet table_after bytes_after broken_rows too_many_rows bad_name faults10 allows_from bad_row faults6 faults7 clashes_from clashes faults16 faults8 faults9 faults accepted has_place_before line_faults_before lines_faults_before tables_read_before read_before faults10_before allows_from_before faults6_before faults7_before faults16_before faults_before padded_sheet package_named type_named impl_named group_named renames_named type_hit in_package_by in_package in_found replaced_by replaced in_named with_package from_imports target renames_for after_rename after_own without_package resolve_by resolve turned feature_by features_walked extended_by type_by found_by visit_within expand_feature_group expand expansion_within expand_on expand_answer feature_block expansion_numbers is_named is_element or_elements found_children leads steps_over steps chains_by chains shape named one_to_one pairs_by pairs append_new row_of pair_rows rows_at traced shown rows unlimited diags_by diags_at traced_diags first_child siblings_behind next_sibling link_row link_table walk is_group_feature type_of declared_group classifier_by declared_by typed_by endpoint_by endpoint is_group_connection end_component_by end_component group_connection group_connections overrun partner matches_by matches dotted full_name connection_kind match_row match_diag rows_matched diags_matched traced_list traced_within row_names group_within group_list_of group_of traced_on traced_answer group_on group_answer with_group after_traced both_answer traced_block group_block diag_block traced_row_numbers traced_diag_numbers group_row_numbers group_diag_numbers composed_names digits_within digits column number_line text_line row_text message path_names diag_text list_text modes_line selection_lines refusal_text text_within modal grown selections_of combinations selections underscored joined_name modes_counted modes_on modes_answer selection_at selection_within selection_on selection_answer text_or_refusal printed_or_refusal conlist_text modes_text mode_text of_reading what_fits conlist_within text_after conlist conlist_ignoring_case modes mode
table-passes = tt

-- EVERY TRIAL HOLDS
pub trials : All Means trial_table
trials = all-meant trial_table table-passes
