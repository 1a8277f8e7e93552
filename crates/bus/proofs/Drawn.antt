-- What reaches the panel over the bank: of the cells the panel's alone change.
use Prim.Native.Nat.{ℕ}
use mathlib.Core.Path.{◌≡◌, refl, sym, ap, ◌∙◌}
use mathlib.Core.List.{List, []}
use mathlib.Core.Logic.{◌≢◌}
use lib.Ieee.{Float}
use Rattle.panel.specs.Lcd.{MaybeByte}
use Rattle.panel.specs.declared.Window.{Window}
use Rattle.panel.specs.declared.Pen.{Pen}
use Rattle.panel.specs.declared.Panel.{Panel}
use Rattle.panel.specs.Lcd.{with_pen, code_of, penned, inked, argued}
use Rattle.panel.specs.Entries.{screen, drawing}
use Rattle.panel.specs.Runs.{byte, screen_after_input}
use Rattle.panel.proofs.Cases.{draws, argues}
use Rattle.state.specs.declared.Parts.{Parts}
use Rattle.state.specs.Bank.{panel_in, parts_in}
use Rattle.state.specs.Packed.{Put}
use Rattle.state.specs.Parts.{panel_put}
use Rattle.bus.specs.Inner.{OnlyPanel}

-- ---- the panel was put, whole or its pen alone; not at all; twice

pub panel_put_lem : {l l' w : List ℕ} (q : Panel) → ((f : List Float) → Put l f l' f w f (panel_put (parts_in l f) q))
    → (panel_in l' ≡ q) × OnlyPanel l l'
panel_put_lem {l} {l'} q p =
    let e : panel_in l' ≡ q = ap (λ (x : Parts). x.devices.panel) (p []).parts in (
      e,
      record {
        parts = λ f. (p f).parts ∙ ap (λ (z : Panel). panel_put (parts_in l f) z) (sym e);
        packed = λ f. (p
            f).packed;
      },
    )

pub panel_same : (l : List ℕ) → OnlyPanel l l
panel_same l = record { parts = λ f. refl; packed = λ f k. k }

pub panel_again : {l m n : List ℕ} → OnlyPanel l m → OnlyPanel m n → OnlyPanel l n
panel_again {n = n} a b =
    record {
      parts = λ f. b.parts f ∙ ap (λ (x : Parts). panel_put x (panel_in n)) (a.parts f);
      packed = λ f
          k. b.packed f (a.packed f k);
    }

-- ---- a data byte

module _ (l fb : List ℕ) (b : ℕ) {order : MaybeByte} {n : ℕ} (o : order ≡ (panel_in l).cmd) (e : n ≡ code_of order)
  where
    code : code_of (panel_in l).cmd ≡ n
    code = ap (λ (h : MaybeByte). code_of h) (sym o) ∙ sym e

    pub data_pixel : {l' w fb' : List ℕ} {window : Window} {pen next : Pen} → n ≡ 0x2C → window ≡ (panel_in l).window
        → pen ≡ (panel_in l).pen
        → drawing next fb' ≡ drawing (penned window pen b) (inked fb pen b)
        → ((f : List Float) → Put l f l' f w f (panel_put (parts_in l f) (with_pen (panel_in l) next)))
        → (screen (panel_in l') fb' ≡ screen_after_input (screen (panel_in l) fb) (byte b)) × OnlyPanel l l'
    data_pixel {fb' = fb'} {pen = pen} {next} h i j d p =
        let r = panel_put_lem (with_pen (panel_in l) next) p in (
          ap (λ (q : Panel). screen q fb') r.0
              ∙ draws (panel_in l) fb b next fb' (code ∙ h)
              (d ∙ ap (λ (z : Window). drawing (penned z pen b) (inked fb pen b)) i ∙ ap
              (λ (z : Pen). drawing (penned (panel_in l).window z b) (inked fb z b)) j),
          r.1,
        )

    pub data_argument : {l' w : List ℕ} {p q : Panel} → n ≢ 0x2C → p ≡ panel_in l → q ≡ argued p b
        → ((f : List Float) → Put l f l' f w f (panel_put (parts_in l f) q))
        → (screen (panel_in l') fb ≡ screen_after_input (screen (panel_in l) fb) (byte b)) × OnlyPanel l l'
    data_argument {q = q} h i j k =
        let r = panel_put_lem q k in (
          ap (λ (z : Panel). screen z fb) r.0 ∙ argues (panel_in l) fb b q (λ z. h (sym code ∙ z))
              (j ∙ ap (λ (z : Panel). argued z b) i),
          r.1,
        )
