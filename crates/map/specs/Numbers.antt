-- The numbers that 01 and the Rust name, as the definitions use them: those of src/lib.rt, a name for a name.
use Rattle.std.specs.Prelude.{ℕ, ◌+◌, ◌-◌}

-- ---- memories, and the screen that the framebuffer holds

abbrev pub FLASH_BASE : ℕ
FLASH_BASE = 0x20000000

abbrev pub FLASH_SIZE : ℕ
FLASH_SIZE = 0x800000

abbrev pub RAM_SIZE : ℕ
RAM_SIZE = 0x1000000

abbrev pub SRAM_BASE : ℕ
SRAM_BASE = 0xF8000000

abbrev pub SRAM_SIZE : ℕ
SRAM_SIZE = 0x100000

abbrev pub SRAM_END : ℕ
SRAM_END = 0xF8100000

abbrev pub GPIO_BASE : ℕ
GPIO_BASE = 0xC0000000

abbrev pub GPIO_SIZE : ℕ
GPIO_SIZE = 0x1000

abbrev pub GPIO_END : ℕ
GPIO_END = 0xC0001000

abbrev pub REGISTERS_END : ℕ
REGISTERS_END = 0xFFFFF000

abbrev pub FRAMEBUFFER_SIZE : ℕ
FRAMEBUFFER_SIZE = 0x8000

abbrev pub PIXELS : ℕ
PIXELS = 0x4000

abbrev pub SCREEN_BYTES : ℕ
SCREEN_BYTES = 0xC000

abbrev pub LCD_W : ℕ
LCD_W = 128

abbrev pub LCD_H : ℕ
LCD_H = 128

abbrev pub SYSCLK_VAR : ℕ
SYSCLK_VAR = 0xF80090A4

abbrev pub SYSCLK_AT : ℕ
SYSCLK_AT = SYSCLK_VAR - SRAM_BASE

-- ---- registers: the timers, of which the buzzer follows one

abbrev pub TIMER_BASE : ℕ
TIMER_BASE = 0xC0020000

abbrev pub TIMER_END : ℕ
TIMER_END = TIMER_BASE + 0xC0

abbrev pub TIMER_STEP : ℕ
TIMER_STEP = 0x20

abbrev pub TIMER_RELOAD : ℕ
TIMER_RELOAD = TIMER_BASE + 0x08

abbrev pub TIMER_COUNT : ℕ
TIMER_COUNT = 6

abbrev pub SOUND_TIMER : ℕ
SOUND_TIMER = 4

abbrev pub SOUND_CONTROL : ℕ
SOUND_CONTROL = TIMER_BASE + 0x80

abbrev pub SOUND_RELOAD : ℕ
SOUND_RELOAD = TIMER_BASE + 0x88

abbrev pub SOUND_COMPARE : ℕ
SOUND_COMPARE = TIMER_BASE + 0x8C

-- ---- the time of day and the 1 Hz tick

abbrev pub RTC_IRQ_BASE : ℕ
RTC_IRQ_BASE = 0xC0040000

abbrev pub RTC_SECONDS : ℕ
RTC_SECONDS = RTC_IRQ_BASE

abbrev pub RTC_MINUTES : ℕ
RTC_MINUTES = RTC_IRQ_BASE + 0x04

abbrev pub RTC_HOURS : ℕ
RTC_HOURS = RTC_IRQ_BASE + 0x08

abbrev pub RTC_IRQ_STATUS : ℕ
RTC_IRQ_STATUS = RTC_IRQ_BASE + 0x54

abbrev pub RTC_IRQ_ENABLE : ℕ
RTC_IRQ_ENABLE = RTC_IRQ_BASE + 0x58

abbrev pub RTC_TICK_BIT : ℕ
RTC_TICK_BIT = 0x2

-- ---- the second SPI, the RTC chip's bus, the ADC, the flash's controller

abbrev pub SPI2_BASE : ℕ
SPI2_BASE = 0xC0080000

abbrev pub SPI2_SEND : ℕ
SPI2_SEND = SPI2_BASE + 0x08

abbrev pub SPI2_STATUS : ℕ
SPI2_STATUS = SPI2_BASE + 0x0C

abbrev pub SPI2_ANSWER : ℕ
SPI2_ANSWER = SPI2_BASE + 0x10

abbrev pub SPI2_IDLE : ℕ
SPI2_IDLE = 0x00

abbrev pub RTC_BUS : ℕ
RTC_BUS = 0xC0090000

abbrev pub RTC_ADDRESS : ℕ
RTC_ADDRESS = RTC_BUS + 0x04

abbrev pub RTC_DATA : ℕ
RTC_DATA = RTC_BUS + 0x08

abbrev pub RTC_COMMAND : ℕ
RTC_COMMAND = RTC_BUS + 0x0C

abbrev pub RTC_READY : ℕ
RTC_READY = RTC_BUS + 0x10

abbrev pub RTC_OUT : ℕ
RTC_OUT = RTC_BUS + 0x14

abbrev pub ADC_BASE : ℕ
ADC_BASE = 0xC00C0000

abbrev pub ADC_CONTROL : ℕ
ADC_CONTROL = ADC_BASE + 0x04

abbrev pub ADC_RESULT : ℕ
ADC_RESULT = ADC_BASE + 0x08

abbrev pub ADC_BATTERY : ℕ
ADC_BATTERY = 0xC000

abbrev pub SPIFC_BASE : ℕ
SPIFC_BASE = 0xC0150000

abbrev pub SPIFC_SELECT : ℕ
SPIFC_SELECT = SPIFC_BASE

abbrev pub SPIFC_STATUS : ℕ
SPIFC_STATUS = SPIFC_BASE + 0x04

abbrev pub SPIFC_SEND : ℕ
SPIFC_SEND = SPIFC_BASE + 0x08

abbrev pub SPIFC_ANSWER : ℕ
SPIFC_ANSWER = SPIFC_BASE + 0x0C

-- ---- clock, power, interrupts, the panel

abbrev pub CLOCK_SWITCH : ℕ
CLOCK_SWITCH = 0xD000001C

abbrev pub CLOCK_STATUS : ℕ
CLOCK_STATUS = 0xD000003C

abbrev pub POWER_REG : ℕ
POWER_REG = 0xD0000078

abbrev pub INTC_PENDING : ℕ
INTC_PENDING = 0xD0100028

abbrev pub INTC_PENDING_FIQ : ℕ
INTC_PENDING_FIQ = 0xD010002C

abbrev pub INTC_MASK : ℕ
INTC_MASK = 0xD0100030

abbrev pub INTC_DISABLE : ℕ
INTC_DISABLE = 0xD0100038

abbrev pub LCD_BASE : ℕ
LCD_BASE = 0xD0500000

abbrev pub LCD_CONTROL : ℕ
LCD_CONTROL = LCD_BASE + 0x140

abbrev pub LCD_DATA : ℕ
LCD_DATA = LCD_BASE + 0x16C

abbrev pub LCD_ENABLE : ℕ
LCD_ENABLE = LCD_BASE + 0x188

abbrev pub LCD_STATUS : ℕ
LCD_STATUS = LCD_BASE + 0x18C

abbrev pub LCD_DMA : ℕ
LCD_DMA = LCD_BASE + 0x33C

-- ---- the interrupt controller's lines, in the order in which they come

abbrev pub RTC_IRQ : ℕ
RTC_IRQ = 1

abbrev pub TIMER_IRQ : ℕ
TIMER_IRQ = 8

abbrev pub LCD_IRQ : ℕ
LCD_IRQ = 27

abbrev pub ADC_IRQ : ℕ
ADC_IRQ = 29

-- ---- refusals

abbrev pub DONE : ℕ
DONE = 0

abbrev pub BAD_TIME : ℕ
BAD_TIME = 1

abbrev pub BAD_TURBO : ℕ
BAD_TURBO = 2

abbrev pub KEYS_FULL : ℕ
KEYS_FULL = 3

abbrev pub REGISTERS_FULL : ℕ
REGISTERS_FULL = 4

abbrev pub SOUND_FULL : ℕ
SOUND_FULL = 5

abbrev pub STRAY_WRITE : ℕ
STRAY_WRITE = 6

abbrev pub BAD_MEMORY : ℕ
BAD_MEMORY = 7

abbrev pub BAD_KEY : ℕ
BAD_KEY = 8

abbrev pub BAD_SIZE : ℕ
BAD_SIZE = 9

abbrev pub BAD_SCRIPT : ℕ
BAD_SCRIPT = 10

abbrev pub OUT_TOO_SHORT : ℕ
OUT_TOO_SHORT = 11

abbrev pub NO_EVENT : ℕ
NO_EVENT = 12

abbrev pub NO_NEXT_TIME : ℕ
NO_NEXT_TIME = 13

abbrev pub BAD_SAVE : ℕ
BAD_SAVE = 14

abbrev pub SAVE_TOO_SHORT : ℕ
SAVE_TOO_SHORT = 15

-- ---- scripts: the greatest counts, and the bytes of what stands in them and in their answers

abbrev pub MOST_PRESSES : ℕ
MOST_PRESSES = 4096

abbrev pub MOST_STEPS : ℕ
MOST_STEPS = 4096

abbrev pub PRESS_BYTES : ℕ
PRESS_BYTES = 9

abbrev pub STEP_BYTES : ℕ
STEP_BYTES = 16

abbrev pub ANSWER_BYTES : ℕ
ANSWER_BYTES = 25

-- ---- the kinds of what stands in scripts; a press has no byte for its kind

abbrev pub PRESS : ℕ
PRESS = 0

abbrev pub READ : ℕ
READ = 1

abbrev pub WRITE : ℕ
WRITE = 2

abbrev pub ADVANCE : ℕ
ADVANCE = 3

abbrev pub NEXT : ℕ
NEXT = 4

abbrev pub PENDING : ℕ
PENDING = 5

abbrev pub TURBO : ℕ
TURBO = 6

abbrev pub KEY : ℕ
KEY = 7

abbrev pub HOLD : ℕ
HOLD = 8

abbrev pub SOUND : ℕ
SOUND = 9

abbrev pub COUNTERS : ℕ
COUNTERS = 10

abbrev pub COLOUR : ℕ
COLOUR = 11

abbrev pub WIPE : ℕ
WIPE = 12
