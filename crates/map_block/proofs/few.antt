-- Few slots: what is told of them is what is asked of their pixels.
pub mod Fews
