-- `rows::refusal::Refusal::says` meets its contract.
use Rattle.rows.proofs.refusal.Refusal.says.Goals as goal

pub returns-in-Length : goal.returns-in-Length
returns-in-Length c = simp (c.in-Length.is, c.plain.ensures)

pub returns-in-Padding : goal.returns-in-Padding
returns-in-Padding c = simp (c.in-Padding.is, c.plain-in-Padding.ensures)

pub returns-in-Preamble : goal.returns-in-Preamble
returns-in-Preamble c = simp (c.in-Preamble.is, c.plain-in-Preamble.ensures)

pub returns-in-Parity : goal.returns-in-Parity
returns-in-Parity c = simp (c.in-Parity.is, c.plain-in-Parity.ensures)

pub returns-in-Message : goal.returns-in-Message
returns-in-Message c = simp (c.in-Message.is, c.plain-in-Message.ensures)

pub returns-in-Version : goal.returns-in-Version
returns-in-Version c = simp (c.in-Version.is, c.plain-in-Version.ensures)

pub returns-in-Category : goal.returns-in-Category
returns-in-Category c = simp (c.in-Category.is, c.plain-in-Category.ensures)

pub returns-in-Range : goal.returns-in-Range
returns-in-Range c = simp (c.in-Range.is, c.at.ensures)

pub returns-in-Gap : goal.returns-in-Gap
returns-in-Gap c = simp (c.in-Gap.is, c.at-in-Gap.ensures)

pub returns-in-Unused : goal.returns-in-Unused
returns-in-Unused c = simp (c.in-Unused.is, c.plain-in-Unused.ensures)

pub returns-in-NoPage : goal.returns-in-NoPage
returns-in-NoPage c = simp (c.in-NoPage.is, c.plain-in-NoPage.ensures)

pub returns-in-OtherBulletin : goal.returns-in-OtherBulletin
returns-in-OtherBulletin c = simp (c.in-OtherBulletin.is, c.plain-in-OtherBulletin.ensures)

pub returns-in-Unsound : goal.returns-in-Unsound
returns-in-Unsound c = simp (c.in-Unsound.is, c.plain-in-Unsound.ensures)

pub returns-in-NotHeld : goal.returns-in-NotHeld
returns-in-NotHeld c = simp c.in-NotHeld.is

pub returns-in-Short : goal.returns-in-Short
returns-in-Short c = simp (c.in-Short.is, c.plain-in-Short.ensures)

pub returns-in-Line : goal.returns-in-Line
returns-in-Line c = simp (c.in-Line.is, c.plain-in-Line.ensures)

pub returns-in-Sentence : goal.returns-in-Sentence
returns-in-Sentence c = simp (c.in-Sentence.is, c.plain-in-Sentence.ensures)

pub returns-in-Checksum : goal.returns-in-Checksum
returns-in-Checksum c = simp (c.in-Checksum.is, c.plain-in-Checksum.ensures)

pub returns-in-Satellite : goal.returns-in-Satellite
returns-in-Satellite c = simp (c.in-Satellite.is, c.plain-in-Satellite.ensures)
