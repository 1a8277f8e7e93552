-- Every code is one of the sheet's table, or none of them.
use Rattle.std.proofs.Common.{◌≡◌, ℕ, Bool, true, false, eqb, List, ◌∷◌, sym, refl, subst, eqb-true}
use Rattle.flash.specs.Pick.{pick}
use Rattle.flash.specs.Xfer.{kind_of}
use Rattle.flash.specs.Finish.{order_of}
use Rattle.flash.specs.Sheet.{undescribed, no_instruction, instruction, table, member, others}
use Rattle.flash.specs.Departures.{named}
use Rattle.flash.specs.declared.Kind.TheVariants.{Zero, Other}
use Rattle.flash.specs.declared.Act.TheVariants.{Nothing}

pub is : (P : ℕ → Type 0) (c k : ℕ) → P k → (eqb c k ≡ false → P c) → P c
is P c k p f = go (eqb c k) refl
  where
    go : (t : Bool) → eqb c k ≡ t → P c
    go true e = subst P (sym (eqb-true c k e)) p
    go false e = f e

-- a code that the table does not have: the chip does nothing with it
pub record Unlisted (c : ℕ) : Type 0 where
  pub sheet : instruction c ≡ pick (member c others) undescribed no_instruction
  pub order : order_of c ≡ Nothing
  pub plain : (bs : List ℕ) → named (c ∷ bs) ≡ false
  pub kind : kind_of c ≡ pick (eqb c 0x15) Zero Other

unlisted : (c : ℕ)
    → eqb c 0x06 ≡ false → eqb c 0x04 ≡ false → eqb c 0x05 ≡ false → eqb c 0x35 ≡ false → eqb c 0x03 ≡ false
    → eqb c 0x0B ≡ false
    → eqb c 0x02 ≡ false → eqb c 0x20 ≡ false → eqb c 0x52 ≡ false → eqb c 0xD8 ≡ false → eqb c 0xC7 ≡ false
    → eqb c 0x60 ≡ false
    → eqb c 0x9F ≡ false → eqb c 0x90 ≡ false → eqb c 0xAB ≡ false → eqb c 0x4B ≡ false
    → Unlisted c
unfolding instruction table kind_of
unlisted c h06 h04 h05 h35 h03 h0_b h02 h20 h52 h_d8 h_c7 h60 h9_f h90 hAB h4_b =
    record {
      sheet = rw (h06, h04, h05, h35, h03, h0_b, h02, h20, h52, h_d8, h_c7, h60, h9_f, h90, hAB, h4_b);
      order = rw (h06, h04, h02, h20, h52, h_d8, h_c7, h60);
      plain = λ bs. rw (h20, h52, h_d8, h_c7, h60, h90, h02);
      kind = rw (h9_f, h90, hAB, h05, h35, h03, h0_b, h4_b);
    }

pub by_code : (P : ℕ → Type 0)
    → P 0x06 → P 0x04 → P 0x05 → P 0x35 → P 0x03 → P 0x0B → P 0x02 → P 0x20 → P 0x52 → P 0xD8 → P 0xC7 → P 0x60 → P 0x9F
    → P 0x90 → P 0xAB → P 0x4B
    → ((c : ℕ) → Unlisted c → P c) → (c : ℕ) → P c
by_code P p06 p04 p05 p35 p03 p0_b p02 p20 p52 p_d8 p_c7 p60 p9_f p90 pAB p4_b rest c =
    is P c 0x06 p06 λ h06. is P c 0x04 p04 λ h04. is P c 0x05 p05 λ h05. is P c 0x35 p35 λ h35. is P c 0x03 p03 λ h03.
    is P c 0x0B p0_b λ h0_b.
    is P c 0x02 p02 λ h02. is P c 0x20 p20 λ h20. is P c 0x52 p52 λ h52. is P c 0xD8 p_d8 λ h_d8. is P c 0xC7 p_c7 λ
    h_c7.
    is P c 0x60 p60 λ h60.
    is P c 0x9F p9_f λ h9_f. is P c 0x90 p90 λ h90. is P c 0xAB pAB λ hAB. is P c 0x4B p4_b λ h4_b.
    rest c (unlisted c h06 h04 h05 h35 h03 h0_b h02 h20 h52 h_d8 h_c7 h60 h9_f h90 hAB h4_b)
