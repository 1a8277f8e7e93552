-- A chip in strict mode keeps 01's rules for it.
use Rattle.std.proofs.Common.{◌≡◌, ℕ, suc, ◌-◌, ◌%◌, ◌<◌, ◌≤◌, Bool, true, false, eqb, leb, List, [], ◌∷◌, length}
use Rattle.std.proofs.Common.{get_or, refl, ap, ◌∙◌, not-suc-le-zero, arith, le-ltb, ne_eqb, eqb-true}
use Rattle.flash.specs.Pick.{pick, both}
use Rattle.flash.specs.Board.{Board}
use Rattle.flash.specs.Run.{Good}
use Rattle.flash.specs.Xfer.{kind_of}
use Rattle.flash.specs.Finish.{act_of, writes_after}
use Rattle.flash.specs.Sheet.{member, code}
use Rattle.flash.specs.Departures.{answer_at}
use Rattle.flash.specs.Strict.{Idles, Strictly}
use Rattle.flash.specs.declared.Mode.TheVariants.{Strict}
use Rattle.flash.specs.declared.Kind.TheVariants.{Maker}
use Rattle.flash.specs.declared.Act.{Act}
use Rattle.flash.specs.declared.Act.TheVariants.{Nothing, Erase, EraseAll}
use Rattle.flash.specs.declared.Block.TheVariants.{Sector, Half, Full}
use Rattle.flash.proofs.Bools.{no_way}
use Rattle.flash.proofs.Laws.{or_case}
use Rattle.flash.proofs.Whole.{exact_trans}
use Rattle.flash.proofs.Conform.{state_after_act, act_cons, may_erase, may_wipe, ends_whole, writes_whole}
use Rattle.flash.proofs.Differ.{kind_at, strict_long}

-- a test that fails allows nothing
forbidden : (t u : Bool) (a : Act) → u ≡ false → pick (both t u) a Nothing ≡ Nothing
forbidden true u a h = rw h
forbidden false u a h = refl

module _ (w : Board) (g : Good w.array) (s : w.chip.cs ≡ false) (r : w.chip.mode ≡ Strict) where
  -- an order that is none
  idle : (bs : List ℕ) → act_of Strict w.chip.wel (exact_trans bs) ≡ Nothing → Idles w bs
  idle bs h =
      let e : act_of w.chip.mode w.chip.wel (exact_trans bs) ≡ Nothing = rw r h in
      record {
        ends = ends_whole w bs g s ∙ ap (state_after_act w.chip.wel w.array bs) e;
        writes = writes_whole w bs g s ∙ ap (λ (a : Act). writes_after a w.chip.writes) e;
      }

  at_code : (c k : ℕ) (bs : List ℕ) → eqb c k ≡ true → act_of Strict w.chip.wel (exact_trans (k ∷ bs)) ≡ Nothing
      → Idles w (c ∷ bs)
  at_code c k bs e h = idle (c ∷ bs) (rw (eqb-true c k e) h)

  erases : (bs : List ℕ) → member (code bs) (0x20 ∷ 0x52 ∷ 0xD8 ∷ []) ≡ true → (length bs ≡ 4 → ⊥) → Idles w bs
  erases [] m h = absurd (no_way m)
  erases (c ∷ bs) m h =
      let e : Bool = w.chip.wel in
      let stop : (a : Act) → pick (may_erase Strict e (suc (length bs))) a Nothing ≡ Nothing =
      λ a. forbidden (both e (leb 4 (suc (length bs)))) (eqb (suc (length bs)) 4) a (ne_eqb (suc (length bs)) 4 h) in
      or_case (eqb c 0x20) _ m (λ k. at_code c 0x20 bs k (act_cons Strict e 0x20 bs ∙ stop (Erase Sector))) λ m.
      or_case (eqb c 0x52) _ m (λ k. at_code c 0x52 bs k (act_cons Strict e 0x52 bs ∙ stop (Erase Half))) λ m.
      or_case (eqb c 0xD8) _ m (λ k. at_code c 0xD8 bs k (act_cons Strict e 0xD8 bs ∙ stop (Erase Full))) λ m. absurd
      (no_way m)

  wipes : (bs : List ℕ) → member (code bs) (0xC7 ∷ 0x60 ∷ []) ≡ true → (length bs ≡ 1 → ⊥) → Idles w bs
  wipes [] m h = absurd (no_way m)
  wipes (c ∷ bs) m h =
      let e : Bool = w.chip.wel in
      let stop : pick (may_wipe Strict e (suc (length bs))) EraseAll Nothing
      ≡ Nothing = forbidden e (eqb (suc (length bs)) 1) EraseAll (ne_eqb (suc (length bs)) 1 h) in
      or_case (eqb c 0xC7) _ m (λ k. at_code c 0xC7 bs k (act_cons Strict e 0xC7 bs ∙ stop)) λ m.
      or_case (eqb c 0x60) _ m (λ k. at_code c 0x60 bs k (act_cons Strict e 0x60 bs ∙ stop)) λ m. absurd (no_way m)

  maker : (bs : List ℕ) (i : ℕ) → 4 ≤ i → i ≤ length bs → get_or (0x90 ∷ bs) 3 0 % 2 ≡ 1
      → answer_at w (0x90 ∷ bs) i ≡ pick (eqb ((i - 4) % 2) 1) 0xEF 0x16
  unfolding kind_of
  maker bs i l h o = kind_at w 0x90 bs i Maker refl g s (omega arith) h ∙ rw (r, le-ltb i 4 l, o)

  programs : (bs : List ℕ) → code bs ≡ 0x02 → 260 < length bs → Idles w bs
  programs [] m h = absurd (not-suc-le-zero h)
  programs (c ∷ bs) m h = idle (c ∷ bs) (rw m (strict_long w.chip.wel bs h))

  pub strictly : Strictly w
  strictly = record { erases = erases; wipes = wipes; maker = maker; programs = programs }
