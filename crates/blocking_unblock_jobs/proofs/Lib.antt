mod Delivered
