-- The body is empty. The borrow is opened, and closed at one look more, which the caller picked.
use Rattle.std.proofs.Common.{List, [], ◌∷◌, refl}
use Rattle.std.proofs.raw_atomic.Walks.{proved}
use mir.Syntax.{named}
use mir.Val.{Val, vunit, vptr}
use base.Logic.{id⊢}
use base.Fml.{ftrue, flft}
use types.Kit.{‵, ◌⊛◌, ◌$◌, ◌∵◌, !, qed, move, keep, drop, use1, split, join, fsplit, fsplit3, fjoin, fjoin3, feq_i, suffices, frame, done}
use types.Run.{unit_lit, of_opd, returns, enter}
use types.ByLocal.{alloc_all, pass_all, free_all, look_at, sets}
use denote.RattleType.{owns}
use denote.Ref.{MutRef, mut_vals, mut_Tells}
use denote.Signature.{plain}
use denote.Steps.{opens, closes}
use denote.Triple.Walked.{Stays, stay_ref, Goes-ref, walk_of, says, ends_at}
use Rattle.binlogfeed.specs.declared.looks.Looks.{Looks}
use Rattle.binlogfeed.specs.contracts.looks.Looks.{the_row as R}
use Rattle.binlogfeed.specs.contracts.looks.Looks.add as f
use Rattle.binlogfeed.proofs.looks.Looks.add.Statement.{statement}
use Rattle.binlogfeed.proofs.looks.Looks.add.Code as code

abbrev stayed : Stays f.ended.signature.params f.ended.kept
stayed = (stay_ref (0 ∷ []) tt (plain (λ _. R)), tt)

pub add_spec : {M : Type 1} → statement M
add_spec 𝓤 𝓛 𝓜 𝓡 wired =
    let c = f.clauses 𝓛 𝓜.mem 𝓡.returns in let W = walk_of 𝓛 f.ended stayed c in
    proved 𝓛 f.ended stayed c 𝓜 𝓡 (Goes-ref 𝓛 1 0 tt (plain (λ _. R)), tt)
    f.Key.name code.function (code.unfolded 𝓤 𝓛.H 𝓜 𝓡 wired)
    (λ κs. (mut_vals, tt)) (λ κs. (mut_Tells (named 0) κs.0 R, tt))
    (λ κs qs bounds a look are.
    let self = a.0 in
    let b = self.ref_ptr.0 in let o = self.ref_ptr.1 in
    let h : Looks = self.now in
    let noted : Looks = record { marker = h.marker; list = look ∷ h.list } in
    let y : W.Ghost = ((κs, qs, bounds, a, (mut_vals self, tt)), look) in
    let κ = κs.0 in
    let q = qs.0 in
    qed 𝓛 (((‵ (flft κ q) ⊛ ‵ ftrue) ⊛ ‵ (owns (MutRef (named 0) κ R ∷ []) a y.0.4)) ∷ ‵ ftrue ∷ []) ∵
    split ! $ split ! $ move ! (2 ∷ []) $ fsplit ! $ fsplit3 ! $ drop ! $ move ! (0 ∷ 1 ∷ 3 ∷ []) $
    enter ! _ _ _ _ _ $ alloc_all ! (λ l. pass_all ! refl ((tt, tt), tt) $
    opens ! tt R {h = h} b o (λ vs. sets ! (of_opd ! (unit_lit !)) refl (tt, tt) $
    move ! (1 ∷ []) $ use1 𝓛 (‵ (R.own_val noted vs)) (id⊢ 𝓤 _) $ move ! (1 ∷ 0 ∷ []) $ closes ! tt R noted vs b o $
    returns ! (look_at ! 0 refl) $ free_all ! refl $
    -- [the loan, in two parts; the token of self; nothing, twice]
    keep ! (3 ∷ 0 ∷ 1 ∷ 2 ∷ 4 ∷ []) $
    suffices ! _ (ends_at 𝓛 f.ended stayed c y vunit tt (noted, tt) (tt, tt)) $ says ! refl $
    move ! (3 ∷ 4 ∷ []) $ join ! $ frame ! $
    move ! (1 ∷ 2 ∷ []) $ feq_i ! (List Val) (vptr b o ∷ []) (vptr b o ∷ []) refl $ fjoin3 ! $ fjoin ! $
    feq_i ! (List Val) (vunit ∷ []) (vunit ∷ []) refl $ move ! (1 ∷ 0 ∷ []) $ done !)))
