-- What a call can change, as one record; and what the entries answer.
use Rattle.std.specs.Prelude.{ℕ, cond, List, length, ◌==◌, Result}
use Rattle.map.specs.Numbers.{FRAMEBUFFER_SIZE, SCREEN_BYTES, DONE, BAD_MEMORY}
use Rattle.map.specs.declared.refusals.Refusal.{Refusal}
use Rattle.map.specs.Refusals.{number_of, value_or}
use Rattle.panel.specs.declared.Pen.{Pen}
use Rattle.panel.specs.declared.Panel.{Panel}
use Rattle.panel.specs.declared.Colours.{Colours}
use Rattle.panel.specs.Lcd.{fed, painted}
use Rattle.panel.specs.Colour.{pixel_at, rgb_of}

-- the panel and its pixels
pub record Screen : Type 0 where
  pub panel : Panel
  pub fb : List ℕ

abbrev pub screen : Panel → List ℕ → Screen
screen p fb = record { panel = p; fb = fb }

-- the pen and the pixels
pub record Drawing : Type 0 where
  pub pen : Pen
  pub fb : List ℕ

abbrev pub drawing : Pen → List ℕ → Drawing
drawing p fb = record { pen = p; fb = fb }

-- ---- data

pub record Outcome : Type 0 where
  pub refusal : ℕ
  pub screen : Screen

-- what a call answers; where it refuses, the panel is the one that was given
abbrev pub outcome : Panel → Result Panel Refusal → List ℕ → Outcome
outcome p r fb = record { refusal = number_of r; screen = screen (value_or r p) fb }

-- framebuffer not 32,768: nothing changes
unfoldable pub data_of : Panel → List ℕ → ℕ → Outcome
data_of p fb b =
    cond (length fb == FRAMEBUFFER_SIZE)
    (record { refusal = DONE; screen = screen (fed p b) (painted p fb b) })
    (record { refusal = BAD_MEMORY; screen = screen p fb })

-- ---- rgb of a pixel

pub record Pixel : Type 0 where
  pub refusal : ℕ
  pub colours : Colours

abbrev pub black : Colours
black = record { r = 0; g = 0; b = 0 }

abbrev pub pixel : Result Colours Refusal → Pixel
pixel r = record { refusal = number_of r; colours = value_or r black }

unfoldable pub pixel_of : List ℕ → ℕ → Pixel
pixel_of fb k =
    cond (length fb == FRAMEBUFFER_SIZE) (record { refusal = DONE; colours = pixel_at fb k })
    (record { refusal = BAD_MEMORY; colours = black })

-- ---- rgb of the whole screen

pub record Picture : Type 0 where
  pub refusal : ℕ
  pub out : List ℕ

abbrev pub picture : Result Unit Refusal → List ℕ → Picture
picture r out = record { refusal = number_of r; out = out }

-- either length wrong: nothing changes
unfoldable pub picture_of : List ℕ → List ℕ → Picture
picture_of fb out =
    cond (length fb == FRAMEBUFFER_SIZE)
    (cond (length out == SCREEN_BYTES) (record { refusal = DONE; out = rgb_of fb })
    (record { refusal = BAD_MEMORY; out = out }))
    (record { refusal = BAD_MEMORY; out = out })
