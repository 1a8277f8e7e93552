use Rattle.std.proofs.Common.{refl, sym, ap, ◌∙◌}
use Rattle.registers.specs.declared.Port.TheVariants.{Select, Send, LcdControl, RtcCommand, Acts, Shows, Holds, Other}
use Rattle.time.specs.Clocks.{clock_in}
use Rattle.state.specs.Bank.{parts_in}
use Rattle.bus.specs.Read.{given}
use Rattle.bus.proofs.Values.{read_as}
use Rattle.bus.proofs.read.own_value.Goals as goal

pub acting_value-requires : goal.acting_value-requires
acting_value-requires c = (
  c.requires,
  sym
      c.port_at-port.ensures ∙ c.in-Acts.is,
)

pub returns-in-Acts : goal.returns-in-Acts
returns-in-Acts c =
    let a = c.args in
    let d = (parts_in a.cells.now a.floats.now).devices in
    read_as a.slots.now d (clock_in a.sram.now) a.s
    c.requires
    c.get-old.ensures (Acts _)
    (sym c.in-Acts.is ∙ c.port_at-port.ensures)
    (ap (given a.slots.now) c.acting_value.ensures)

pub view_of-requires : goal.view_of-requires
view_of-requires c = (
  c.requires,
  sym
      c.port_at-port.ensures ∙ c.in-Shows.is,
)

pub returns-in-Shows : goal.returns-in-Shows
returns-in-Shows c =
    let a = c.args in
    let d = (parts_in a.cells.now a.floats.now).devices in
    read_as a.slots.now d (clock_in a.sram.now) a.s
    c.requires
    c.get-old.ensures (Shows _)
    (sym c.in-Shows.is ∙
    c.port_at-port.ensures) c.view_of.ensures

pub returns-in-Select : goal.returns-in-Select
returns-in-Select c =
    read_as _ _ _ _ c.requires c.get-old.ensures Select
    (sym c.in-Select.is ∙ c.port_at-port.ensures) refl

pub returns-in-Send : goal.returns-in-Send
returns-in-Send c =
    read_as _ _ _ _ c.requires c.get-old.ensures Send
    (sym c.in-Send.is ∙ c.port_at-port.ensures) refl

pub returns-in-LcdControl : goal.returns-in-LcdControl
returns-in-LcdControl c =
    read_as _ _ _ _ c.requires c.get-old.ensures LcdControl
    (sym c.in-LcdControl.is ∙ c.port_at-port.ensures) refl

pub returns-in-RtcCommand : goal.returns-in-RtcCommand
returns-in-RtcCommand c =
    read_as _ _ _ _ c.requires c.get-old.ensures RtcCommand
    (sym c.in-RtcCommand.is ∙ c.port_at-port.ensures) refl

pub returns-in-Holds : goal.returns-in-Holds
returns-in-Holds c =
    read_as _ _ _ _ c.requires c.get-old.ensures Holds
    (sym c.in-Holds.is ∙ c.port_at-port.ensures) refl

pub returns-in-Other : goal.returns-in-Other
returns-in-Other c =
    read_as _ _ _ _ c.requires c.get-old.ensures Other
    (sym c.in-Other.is ∙ c.port_at-port.ensures) refl
