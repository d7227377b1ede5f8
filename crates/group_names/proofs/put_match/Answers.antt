-- `group_names::put_match` meets its contract: the names that were put are those of the match, and where one found no room the others change nothing.
-- Assumes nothing.
use mathlib.Core.Path.{◌≡◌, sym, ap, ◌∙◌}
use mathlib.Core.List.{List, [], ◌∷◌}
use Prim.Native.Nat.{ℕ, ◌-◌}
use lib.ListN.{length, take, drop}
use Rattle.std.specs.Prelude.{Option}
use Rattle.lent.specs.Append.{append_all}
use Rattle.lent.specs.Model.{model}
use Rattle.output.specs.Put.{output_of}
use Rattle.group_names.specs.Pieces.{length_by, joined_pieces, feature_names, feature_back, own_pieces, source_pieces, partner_pieces, pair_back}
use Rattle.group_names.specs.Compose.{row_by}
use Rattle.group_names.proofs.Joining.{full_told}
use Rattle.group_names.proofs.Composing.{own_is, source_is, partner_is, names_one, names_two, names_three, row_told}
use Rattle.group_names.proofs.put_match.Goals as goal
use Rattle.group_names.proofs.put_match.Goals.{After-branch-own, After-branch-source, After-branch-partner}

-- the three names, as they are put
module _ (c : After-branch-own) where
  own-is : joined_pieces (model c.args.m.now) c.name_of-name.result (c.get_or-feature.result ∷ []) ≡ own_pieces (model c.args.m.now) (pair_back c.args.row.now)
  own-is = own_is (model c.args.m.now) c.args.row.now _ c.get_or-i.ensures _ _ c.name_of-name.ensures c.get_or-feature.ensures

  own-put : output_of c.put_joined.new.out ≡ append_all (own_pieces (model c.args.m.now) (pair_back c.args.row.now)) (output_of c.args.out.now)
  own-put = c.put_joined.ensures.put ∙ ap (λ (ps : List (List ℕ)). append_all ps (output_of c.args.out.now)) own-is

module _ (c : After-branch-source) where
  source-is : joined_pieces (model c.args.m.now) c.feature_of-group.result (feature_names (feature_back (take (length c.args.row.now - 3) (drop 3 c.args.row.now)))) ≡ source_pieces (model c.args.m.now) (pair_back c.args.row.now)
  source-is = source_is (model c.args.m.now) c.args.row.now _ c.get_or-i.ensures _ c.feature_of-group.ensures

  source-put : output_of c.put_feature.new.out ≡ append_all (source_pieces (model c.args.m.now) (pair_back c.args.row.now)) (output_of c.put_joined.new.out)
  source-put = c.put_feature.ensures.put ∙ ap (λ (ps : List (List ℕ)). append_all ps (output_of c.put_joined.new.out)) source-is

module _ (c : After-branch-partner) where
  partner-is : joined_pieces (model c.args.m.now) c.feature_of-group-2.result (feature_names (feature_back (take (length c.args.row.now - 17) (drop 17 c.args.row.now)))) ≡ partner_pieces (model c.args.m.now) (pair_back c.args.row.now)
  partner-is = partner_is (model c.args.m.now) c.args.row.now _ c.get_or-i.ensures _ c.feature_of-group-2.ensures

  partner-put : output_of c.put_feature-2.new.out ≡ append_all (partner_pieces (model c.args.m.now) (pair_back c.args.row.now)) (output_of c.put_feature.new.out)
  partner-put = c.put_feature-2.ensures.put ∙ ap (λ (ps : List (List ℕ)). append_all ps (output_of c.put_feature.new.out)) partner-is

pub returns-in_err-own-clause-put : goal.returns-in_err-own-clause-put
returns-in_err-own-clause-put c =
    let a = goal.at.returns-in_err-own-clause-put c in
    names_one _ _ _ _ (own-put a.After-branch-own) (full_told _ _ c.in_err-own.ensures.told)

pub returns-in_err-source-clause-put : goal.returns-in_err-source-clause-put
returns-in_err-source-clause-put c =
    let a = goal.at.returns-in_err-source-clause-put c in
    names_two _ _ _ _ _ (source-put a.After-branch-source) (full_told _ _ c.in_err-source.ensures.told) (own-put a.After-branch-own)

pub returns-in_err-partner-clause-put : goal.returns-in_err-partner-clause-put
returns-in_err-partner-clause-put c =
    let a = goal.at.returns-in_err-partner-clause-put c in
    names_three _ _ _ _ _ _ (partner-put a.After-branch-partner) (source-put a.After-branch-source) (own-put a.After-branch-own)

pub returns-clause-put : goal.returns-clause-put
returns-clause-put c =
    let a = goal.at.returns-clause-put c in
    names_three _ _ _ _ _ _ (partner-put a.After-branch-partner) (source-put a.After-branch-source) (own-put a.After-branch-own)

pub returns-clause-row_after : goal.returns-clause-row_after
returns-clause-row_after c =
    let a = goal.at.returns-clause-row_after c in
    row_told (model c.args.m.now) c.args.row.now _ _ _ _ c.put_row.ensures _ _ _ (c.in_ok-own.ensures.told ∙ ap (length_by c.put_joined.new.out.used) (own-is a.After-branch-own))
    (c.in_ok-source.ensures.told ∙ ap (length_by c.put_feature.new.out.used) (source-is a.After-branch-source))
    (c.in_ok-partner.ensures.told ∙ ap (length_by c.put_feature-2.new.out.used) (partner-is a.After-branch-partner))
    ∙ sym (ap (λ (u : Option ℕ). row_by u (model c.args.m.now) c.args.row.now) c.used.ensures)
