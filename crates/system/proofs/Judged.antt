-- Each example of the table holds.
use mathlib.Core.Path.{refl}
use Rattle.whole.specs.Table.{All}
use Rattle.registers.specs.Ports as ports
use Rattle.registers.specs.Words as words
use Rattle.memory.specs.Access as access
use Rattle.memory.specs.Places as places
use Rattle.bus.specs.Write as writing
use Rattle.system.specs.System.{fresh_system}
use Rattle.system.specs.Calls.{write_of}
use Rattle.system.specs.Steps.{step}
use Rattle.system.specs.Table.{table}

pub judged : All table
unfolding step write_of fresh_system writing.write_of writing.reg_written writing.port_written writing.stored_word
    words.word_at words.put_word words.spot_of words.other_spot words.put_present words.put_absent words.end_from
    words.end_of
    words.removed_to words.inserted_to words.removed words.inserted words.place words.halving words.halved words.own_at
    words.own_with ports.slot_of ports.own_words ports.words_from ports.named_rows ports.port_at
    ports.day_word ports.port_of ports.index words.unstored words.fresh_registers access.good_size access.merged_of
    access.written_of access.mask_of access.span_of access.shifted places.place_of places.in_registers places.within
judged = (refl, (refl, (refl, (refl, tt))))
