-- What contracts of inner functions speak of. No public contract and no theorem that docs/PROMISES.md cites does, so
-- a reader may pass it over.
use Rattle.std.specs.Prelude.{ℕ, ◌+◌, ◌*◌}
use Rattle.map.specs.Numbers.{DONE}
use Rattle.whole.specs.Forms.{bits_of, bit}
use Rattle.panel.specs.declared.Colours.{Colours}
use Rattle.timer.specs.declared.Event.{Event}
use Rattle.state.specs.declared.Devices.{Devices}
use Rattle.entries.specs.declared.Answer.{Answer}
use Rattle.entries.specs.Answers.{reply}

-- ---- the answers of some kinds

-- 9: the bits of a sound event
abbrev pub sound_reply : ℕ → Event → Answer
sound_reply n e = reply n (bits_of e.time) (bits_of e.frequency) (bits_of e.duty)

-- 10: frames, flash writes, 1 if powered off
abbrev pub counters_reply : Devices → Answer
counters_reply d = reply DONE d.panel.pen.frames d.flash.writes (bit d.off)

-- 11: r * 65536 + g * 256 + b
abbrev pub colour_reply : Colours → Answer
colour_reply c = reply DONE (c.r * 65536 + c.g * 256 + c.b) 0 0
