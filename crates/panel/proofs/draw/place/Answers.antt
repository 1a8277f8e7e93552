use Rattle.std.proofs.Common.{sym, ◌∙◌, arith}
use Rattle.panel.proofs.Cases.{put_on, put_below, put_right}
use Rattle.panel.proofs.draw.place.Goals as goal

pub returns-then-y-lt-LCD_H : goal.returns-then-y-lt-LCD_H
returns-then-y-lt-LCD_H c = (cc) ∙ sym (put_on _ _ _ _ _ (omega arith) (omega arith))

pub returns-else-y-lt-LCD_H : goal.returns-else-y-lt-LCD_H
returns-else-y-lt-LCD_H c = sym (put_below _ _ _ _ _ (omega arith) (omega arith))

pub returns-else-x-lt-LCD_W : goal.returns-else-x-lt-LCD_W
returns-else-x-lt-LCD_W c = sym (put_right _ _ _ _ _ (omega arith))
