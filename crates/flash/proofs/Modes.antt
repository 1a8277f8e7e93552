-- Strict mode differs from document 000 by the rules named for it alone, and each strict departure keeps document 000's
-- behaviour.
use Rattle.std.proofs.Common.{◌≡◌, ℕ, zero, suc, ◌%◌, ◌<◌, ◌≤◌, Bool, true, false, eqb, List, [], ◌∷◌, length}
use Rattle.std.proofs.Common.{sym, refl, ap, ◌∙◌, not-suc-le-zero, mod-lt, arith, ltb-false, le-ltb, lt-ltb}
use borrow.Author.Tests.{eqb-false}
use Rattle.whole.proofs.Choice.{by_less}
use Rattle.flash.specs.Pick.{pick}
use Rattle.flash.specs.Board.{Board}
use Rattle.flash.specs.Xfer.{kind_of, reply_to, answer_of}
use Rattle.flash.specs.Finish.{act_of, writes_after}
use Rattle.flash.specs.Run.{Good}
use Rattle.flash.proofs.Whole.{at, trans_at, exact_trans}
use Rattle.flash.specs.Sheet.{others, member}
use Rattle.flash.specs.Departures.{shaped, lacking, named, in_mode, StrictAsRust}
use Rattle.flash.specs.declared.Mode.{Mode}
use Rattle.flash.specs.declared.Mode.TheVariants.{Rust, Strict}
use Rattle.flash.specs.declared.Kind.{Kind}
use Rattle.flash.specs.declared.Kind.TheVariants.{Identity, Maker, Device, Status, Zero, Read, FastRead, Unique}
use Rattle.flash.specs.declared.Kind.TheVariants.{Other}
use Rattle.flash.specs.declared.Act.{Act}
use Rattle.flash.specs.declared.Act.TheVariants.{Nothing, Enable, Disable, Program, Erase, EraseAll}
use Rattle.flash.specs.declared.Trans.{Trans}
use Rattle.flash.specs.declared.Block.TheVariants.{Sector, Half, Full}
use Rattle.flash.proofs.Bools.{no_way, either_first}
use Rattle.flash.proofs.Codes.{is, by_code}
use Rattle.flash.proofs.Conform.{state_after_act, act_cons, may_program, may_erase, may_wipe, just_4, just_1, maker_0}
use Rattle.flash.proofs.Conform.{just_260, ends_whole, writes_whole, replies_whole}

-- ---- the answers: 0x90 alone looks at the mode
abbrev Free : Kind → Type 0
Free Identity = Unit {0}
Free Maker = ⊥
Free Device = Unit {0}
Free Status = Unit {0}
Free Zero = Unit {0}
Free Read = Unit {0}
Free FastRead = Unit {0}
Free Unique = Unit {0}
Free Other = Unit {0}

free_pick : (t : Bool) (a b : Kind) → Free a → Free b → Free (pick t a b)
free_pick true a b p q = p
free_pick false a b p q = q

free_kind : (c : ℕ) → eqb c 0x90 ≡ false → Free (kind_of c)
unfolding kind_of
free_kind c h =
    rw h
    (free_pick (eqb c 0x9F) Identity _ tt
    (free_pick (eqb c 0xAB) Device _ tt
    (free_pick (eqb c 0x05) Status _ tt
    (free_pick (eqb c 0x35) Zero _ tt
    (free_pick (eqb c 0x15) Zero _ tt
    (free_pick (eqb c 0x03) Read _ tt
    (free_pick (eqb c 0x0B) FastRead _ tt (free_pick (eqb c 0x4B) Unique Other tt tt))))))))

free_reply : (k : Kind) → Free k → (w : Bool) (t : Trans) (m : List ℕ) → reply_to k Strict w t m ≡ reply_to k Rust w t m
free_reply Identity h w t m = refl
free_reply Maker h w t m = absurd h
free_reply Device h w t m = refl
free_reply Status h w t m = refl
free_reply Zero h w t m = refl
free_reply Read h w t m = refl
free_reply FastRead h w t m = refl
free_reply Unique h w t m = refl
free_reply Other h w t m = refl

even_90 : (bs : List ℕ) → named (0x90 ∷ bs) ≡ false → at (0x90 ∷ bs) 3 % 2 ≡ 0
even_90 bs h =
    let z : at (0x90 ∷ bs) 3 % 2 ≡ 1 → ⊥ = eqb-false _ 1 (either_first _ _ h) in
    let l : at (0x90 ∷ bs) 3 % 2 < 2 = mod-lt (at (0x90 ∷ bs) 3) (omega arith) in
    two (at (0x90 ∷ bs) 3 % 2) z l
  where
    two : (x : ℕ) → (x ≡ 1 → ⊥) → x < 2 → x ≡ 0
    two zero f l = refl
    two (suc zero) f l = absurd (f refl)
    two (suc (suc x)) f l = omega arith

module _ (w : Bool) (m : List ℕ) (bs : List ℕ) (i : ℕ) where
  abbrev SameReply : ℕ → Type 0
  SameReply c =
      named (c ∷ bs) ≡ false → reply_to (kind_of c) Strict w (trans_at (c ∷ bs) i) m
      ≡ reply_to (kind_of c) Rust w (trans_at (c ∷ bs) i) m

  maker_same : SameReply 0x90
  unfolding kind_of
  maker_same h =
      let b : ℕ = at (0x90 ∷ bs) 3 in
      by_less i 4 (λ k. rw (lt-ltb i 4 k))
      (λ k. rw (le-ltb i 4 k) (maker_0 Strict b i (even_90 bs h) ∙ sym (maker_0 Rust b i (even_90 bs h))))

  reply_same : (c : ℕ) → SameReply c
  reply_same c = is SameReply c 0x90 maker_same (λ f g. free_reply (kind_of c) (free_kind c f) w
      (trans_at (c ∷ bs) i) m)

answer_same : (w : Bool) (m : List ℕ) (bs : List ℕ) (i : ℕ) → i < length bs → named bs ≡ false
    → answer_of Strict w (trans_at bs i) m ≡ answer_of Rust w (trans_at bs i) m
unfolding answer_of
answer_same w m [] i l h = absurd (not-suc-le-zero l)
answer_same w m (c ∷ bs) i l h = ap (λ (r : ℕ). pick (eqb i 0) 0xFF r) (reply_same w m bs i c h)

-- ---- what is left: the two orders
module _ (w : Bool) (bs : List ℕ) where
  abbrev Same : ℕ → Type 0
  Same c = act_of Strict w (exact_trans (c ∷ bs)) ≡ act_of Rust w (exact_trans (c ∷ bs))

  -- an order that looks at no length, and one that goes by a test
  calm : (c : ℕ) (a : Act) → ((e : Mode) → act_of e w (exact_trans (c ∷ bs)) ≡ a) → Same c
  calm c a f = f Strict ∙ sym (f Rust)

  tested : (c : ℕ) (t : Mode → Bool) (a : Act) → ((e : Mode) → act_of e w (exact_trans (c ∷ bs)) ≡ pick (t e) a Nothing)
      → t Strict ≡ t Rust → Same c
  tested c t a f h = f Strict ∙ ap (λ (x : Bool). pick x a Nothing) h ∙ sym (f Rust)

  abbrev size : ℕ
  size = suc (length bs)

  programs : size ≤ 260 → Same 0x02
  programs l =
      tested 0x02 (λ e. may_program e w size) Program (λ e. act_cons e w 0x02 bs)
      (just_260 w Strict size l ∙ sym (just_260 w Rust size l))

  erases : (c : ℕ) (a : Act) → ((e : Mode) → act_of e w (exact_trans (c ∷ bs)) ≡ pick (may_erase e w size) a Nothing)
      → size ≤ 4 → Same c
  erases c a f l = tested c (λ e. may_erase e w size) a f (just_4 w Strict size tt ∙ sym (just_4 w Rust size l))

  wipes : (c : ℕ) → ((e : Mode) → act_of e w (exact_trans (c ∷ bs)) ≡ pick (may_wipe e w size) EraseAll Nothing) →
      size ≤ 1
      → Same c
  wipes c f l =
      tested c (λ e. may_wipe e w size) EraseAll f
      (just_1 w Strict size (omega arith) tt ∙ sym (just_1 w Rust size (omega arith) l))

  same_act : (c : ℕ) → named (c ∷ bs) ≡ false → Same c
  same_act =
      by_code (λ (c : ℕ). named (c ∷ bs) ≡ false → Same c)
      (λ h. calm 0x06 Enable (λ e. act_cons e w 0x06 bs))
      (λ h. calm 0x04 Disable (λ e. act_cons e w 0x04 bs))
      (λ h. calm 0x05 Nothing (λ e. act_cons e w 0x05 bs))
      (λ h. calm 0x35 Nothing (λ e. act_cons e w 0x35 bs))
      (λ h. calm 0x03 Nothing (λ e. act_cons e w 0x03 bs))
      (λ h. calm 0x0B Nothing (λ e. act_cons e w 0x0B bs))
      (λ h. programs (ltb-false 260 _ h))
      (λ h. erases 0x20 (Erase Sector) (λ e. act_cons e w 0x20 bs) (ltb-false 4 _ (either_first _ _ h)))
      (λ h. erases 0x52 (Erase Half) (λ e. act_cons e w 0x52 bs) (ltb-false 4 _ (either_first _ _ h)))
      (λ h. erases 0xD8 (Erase Full) (λ e. act_cons e w 0xD8 bs) (ltb-false 4 _ (either_first _ _ h)))
      (λ h. wipes 0xC7 (λ e. act_cons e w 0xC7 bs) (ltb-false 1 _ (either_first _ _ h)))
      (λ h. wipes 0x60 (λ e. act_cons e w 0x60 bs) (ltb-false 1 _ (either_first _ _ h)))
      (λ h. calm 0x9F Nothing (λ e. act_cons e w 0x9F bs))
      (λ h. calm 0x90 Nothing (λ e. act_cons e w 0x90 bs))
      (λ h. calm 0xAB Nothing (λ e. act_cons e w 0xAB bs))
      (λ h. calm 0x4B Nothing (λ e. act_cons e w 0x4B bs))
      (λ c u h. calm c Nothing (λ e. act_cons e w c bs ∙ rw u.order))

act_same : (w : Bool) (bs : List ℕ) → named bs ≡ false → act_of Strict w (exact_trans bs) ≡ act_of Rust w
    (exact_trans bs)
unfolding act_of
act_same w [] h = refl
act_same w (c ∷ bs) h = same_act w bs c h

-- Strict mode differs from document 000's only where a rule is named.
pub strict_as_rust : (w : Board) (bs : List ℕ) → Good w.array → w.chip.cs ≡ false → named bs ≡ false
    → StrictAsRust w bs
strict_as_rust w bs g c h =
    let q = act_same w.chip.wel bs h in
    record {
      replies =
          λ i l. replies_whole (in_mode Strict w) bs i l g c ∙ answer_same w.chip.wel w.array bs i l h
          ∙ sym (replies_whole (in_mode Rust w) bs i l g c);
      ends =
          ends_whole (in_mode Strict w) bs g c ∙ ap (state_after_act w.chip.wel w.array bs) q
          ∙ sym (ends_whole (in_mode Rust w) bs g c);
      writes =
          writes_whole (in_mode Strict w) bs g c ∙ ap (λ (a : Act). writes_after a w.chip.writes) q
          ∙ sym (writes_whole (in_mode Rust w) bs g c);
    }

-- ---- the strict list
lacking_plain : (bs : List ℕ) (c : ℕ) → member c others ≡ true → named (c ∷ bs) ≡ false
unfolding others
lacking_plain bs =
    by_code (λ (c : ℕ). member c others ≡ true → named (c ∷ bs) ≡ false)
    (λ h. absurd (no_way h)) (λ h. absurd (no_way h)) (λ h. absurd (no_way h)) (λ h. absurd (no_way h))
    (λ h. absurd (no_way h)) (λ h. absurd (no_way h)) (λ h. absurd (no_way h)) (λ h. absurd (no_way h))
    (λ h. absurd (no_way h)) (λ h. absurd (no_way h)) (λ h. absurd (no_way h)) (λ h. absurd (no_way h))
    (λ h. absurd (no_way h)) (λ h. absurd (no_way h)) (λ h. absurd (no_way h)) (λ h. absurd (no_way h))
    (λ c u h. u.plain bs)

-- 01: a strict departure is listed only where it keeps document 000's behaviour. Before W-205 a program that is too
-- long is the exception.
pub departures_keep : (w : Board) (bs : List ℕ) → Good w.array → w.chip.cs ≡ false
    → shaped lacking (length w.array) bs ≡ true → StrictAsRust w bs
unfolding others
departures_keep w [] g c h = absurd (no_way h)
departures_keep w (b ∷ bs) g c h = strict_as_rust w (b ∷ bs) g c (lacking_plain bs b h)
