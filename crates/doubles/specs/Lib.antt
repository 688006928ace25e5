-- What stands twice: Double states it of any things, with what it means; Same which names and which integers are the
-- same; Key the texts and numbers that stand for them; Contract ties the code's table of keys to these.
pub mod Double
pub mod Same
pub mod Key
pub mod Contract
