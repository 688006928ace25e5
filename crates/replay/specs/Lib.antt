-- What the replay's contracts say. Window has the unread bytes and what reading on leaves free, Header the line in
-- front of a section, Answer what a recorded answer is compared with, State what is kept and counted, Turn what a turn
-- makes of it.
pub mod Window
pub mod Header
pub mod Answer
pub mod State
pub mod Turn
