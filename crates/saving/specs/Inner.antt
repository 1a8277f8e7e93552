-- What contracts of inner functions speak of.
use Rattle.std.specs.Prelude.{ℕ, ◌+◌, ◌≡◌, List, ◌++◌, Float, length}
use Rattle.std.proofs.lemmas.List.Edits.{sets}
use Rattle.timer.specs.declared.Queue.{Queue}
use Rattle.session.specs.Sections.{timers_section, words_section, devices_sections, presses_section, events_section}
use Rattle.session.specs.Sections.{memory_sections}

-- bytes laid from a place on, and the place behind them
pub record Laid (l l' : List ℕ) (at next : ℕ) (bytes : List ℕ) : Type 0 where
  pub laid : l' ≡ sets l at bytes
  pub behind : next ≡ at + length bytes

-- all sections, of the bank's words l and f: with n other words, k presses that wait in some places, e sound events
unfoldable pub layout : List ℕ → List Float → List ℕ → List ℕ → List ℕ → ℕ → List ℕ → List ℕ → List Float → List ℕ
    → Float → ℕ → ℕ → Queue → ℕ → List ℕ → List ℕ → List ℕ → List ℕ → List ℕ
layout l f slots addresses values n rtc page starts codes now places k q e ram sram gpio fb =
    timers_section l f
    ++ (words_section slots addresses values n
    ++ (devices_sections l f rtc page
    ++ (presses_section starts codes now places k ++ (events_section q e ++ memory_sections ram sram gpio fb))))
